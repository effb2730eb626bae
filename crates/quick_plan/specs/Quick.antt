-- The quick plan: the report's Fast Algorithm, section 2.2.2, period by period, with document 01's ties. It is said for any next cost,
-- which is what one more period of hold costs a flight in a period: the highest next costs land. Document 01's quick plan is the one in
-- which that is the rate.
-- Assumes nothing.
use Rattle.std.specs.Prelude.{Bool, false, cond, not, ◌&&◌, ◌||◌, List, ℕ, zero, suc, ◌+◌, ◌-◌, ltb, eqb}
use Rattle.assignment.specs.Sum.{gate, sum}
use Rattle.assignment.specs.Rows.{row}
use Rattle.day.specs.Day.{Day, P, N, due_of, due, capacity, landings}
use Rattle.quick_plan.specs.declared.NextCost.TheVariants.{Rate}
use Rattle.quick_plan.specs.NextCost.{next_cost}

-- a is less than b, or they are equal and the next test decides
abbrev pub less : ℕ → ℕ → Bool → Bool
less a b next = ltb a b || eqb a b && next

-- with these next costs, flight k goes before flight i: its own is higher; "Ties: earlier due, then lower table place." Of flights that
-- wait, the one that is due earlier is the one "held longest" (#105).
unfoldable pub before : (flights : List ℕ) (cost_k cost_i k i : ℕ) → Bool
before flights cost_k cost_i k i = less cost_i cost_k (less (due_of flights k) (due_of flights i) (ltb k i))

-- the same where `costs` has the next cost of every flight in the period
unfoldable pub ahead_of : (flights : List ℕ) (costs : ℕ → ℕ) → ℕ → ℕ → Bool
ahead_of flights costs k i = before flights (costs k) (costs i) k i

abbrev pub ahead : Day → (ℕ → ℕ) → ℕ → ℕ → Bool
ahead d = ahead_of d.flights

-- how many flights of a set go before flight i
unfoldable pub going_before : Day → (ℕ → ℕ) → (ℕ → Bool) → ℕ → ℕ
going_before d costs set i = sum (N d) (λ k. gate (set k && ahead d costs k i) 1)

-- flight i is one of the m flights of a set that go first: "The capacity's number of highest rates land, or all if fewer.", and with #105
-- "the highest next costs"
unfoldable pub highest : Day → (ℕ → ℕ) → ℕ → (ℕ → Bool) → ℕ → Bool
highest d costs m set i = set i && ltb (going_before d costs set i) m

-- below, `next` has what one more period of hold costs, at the period and the table place

-- the report's E: "Eligible in j: due in j, or eligible in j−1 and not landed there." None is in period 0.
unfoldable pub eligible : Day → (next : ℕ → ℕ → ℕ) → ℕ → ℕ → Bool
eligible d next zero i = false
eligible d next (suc j) i =
    eqb (due d i) (suc j) || eligible d next j i && not (highest d (next j) (capacity d j) (eligible d next j) i)

-- the report's OP: flight i lands in period j
unfoldable pub operates : Day → (next : ℕ → ℕ → ℕ) → ℕ → ℕ → Bool
operates d next j i = highest d (next j) (capacity d j) (eligible d next j) i

-- the period of 1 to j in which flight i lands; if there is none, P + 1: "Those left land in P+1."
unfoldable pub lands : Day → (next : ℕ → ℕ → ℕ) → ℕ → ℕ → ℕ
lands d next zero i = P d + 1
lands d next (suc j) i = cond (operates d next (suc j) i) (suc j) (lands d next j i)

-- the holds, in table order
unfoldable pub quick_by : Day → (next : ℕ → ℕ → ℕ) → List ℕ
quick_by d next = row (N d) (λ i. lands d next (P d) i - due d i)

-- "Those left land in P+1.": how many they are
unfoldable pub left_over : Day → (next : ℕ → ℕ → ℕ) → ℕ
left_over d next = landings d (quick_by d next) (P d + 1)

-- document 01's quick plan: "The capacity's number of highest rates land"
abbrev pub rates : Day → ℕ → ℕ → ℕ
rates d = next_cost Rate d.flights

abbrev pub quick : Day → List ℕ
quick d = quick_by d (rates d)
