-- The laws of the walk over a hold row and of the sum of its costs: how each starts, goes on and ends.
-- Assumes nothing.
use mathlib.Core.Path.{◌≡◌, refl, sym, ap, ◌∙◌}
use mathlib.Core.Logic.{inl, inr}
use mathlib.Core.Bool.{Bool, true, false, ◌||◌}
use mathlib.Core.List.{List, []}
use Prim.Native.Nat.{ℕ, suc, ◌+◌, ◌*◌, ◌≤◌, ◌<◌}
use native.Mathlib.Nat.{mul-le-mul}
use native.Mathlib.Numerals.{add-one}
use native.Mathlib.Omega.{arith}
use lib.ListN.{length, get_or, set, length-set, replicate}
use lib.Seq.{get_or-set_same, get_or-set_other}
use Rattle.std.specs.Prelude.{Some, None, Ok, Err}
use lib.Dec.{ltb}
use borrow.Author.Tests.{ltb-false, lt-ltb, le-ltb, lt-leb, le-leb, eq-eqb, ne_eqb}
use Rattle.assignment.specs.Sum.{gate, sum, count}
use Rattle.assignment.proofs.Tests.{lt?, eq?, gate_eq, gate_ne}
use Rattle.assignment.proofs.Rows.{blank_at}
use Rattle.assignment.proofs.Sums.{count_suc, count_zero, count_le}
use Rattle.day.specs.declared.Flight.{Flight}
use Rattle.day.specs.Day.{takes, Day, day, P, N, period_row, most_flights, column, flight_count, flight_at, unlimited, takes_of, counted_of, latest, land, hold, hold_cost, total_of, total, valid, width}
use Rattle.day.specs.Plan.{too_long_of, too_long, over_capacity, breaks, first_break}
use Rattle.day.proofs.Costs.{takes_closing, counted_from, uncounted, cost_most}
use Rattle.day.proofs.Tests.{first_at, first_none}
use Rattle.day.specs.Valid.{Valid}
use Rattle.day.proofs.Valid.{valid_means}
use Rattle.answers.specs.declared.Refusal.TheVariants.{BadDay, BadLength, NotLegal}
use Rattle.legality.specs.Check.{plan_check, walked}
use Rattle.legality.specs.Loop.{Walked, FirstBreak, CanSum, Summed}

pub or_false : (a b : Bool) → (a || b) ≡ false → (a ≡ false) × (b ≡ false)
or_false false b e = (refl, e)
or_false true b e = (e, false_now e)
  where
    false_now : true ≡ false → b ≡ false
    false_now e = absurd (omega (arith, ap {B = ℕ} (λ t. gate t 1) e))

-- a hold that is not too long lands by the closing period, within its limit
pub not_long : (d : Day) (i k : ℕ) → too_long d i k ≡ false → (k ≤ P d + 1) × (k ≤ latest d i)
unfolding too_long_of
not_long d i k e =
    let t = or_false (ltb (P d + 1) k) (ltb (latest d i) k) e in
    (ltb-false (P d + 1) k t.0, ltb-false (latest d i) k t.1)

-- what is found of the flight as it was read
pub long_of : (p k : ℕ) {f g : Flight} {r b : Bool} → r ≡ too_long_of p f k → f ≡ g → r ≡ b → too_long_of p g k ≡ b
long_of p k found same is = ap (λ f. too_long_of p f k) (sym same) ∙ sym found ∙ is

module _ {d : Day} {h loads : List ℕ} {i : ℕ} (s : Walked d h loads i) where
  v : Valid d
  v = valid_means s.good

  pub walk_place : i < length h → (i + 1) * width ≤ length d.flights
  walk_place l = omega (arith, v.whole, s.each)

  module _ {k : ℕ} (l : i < length h) (at-k : k ≡ land d h i) where
    pub walk_long : too_long d i k ≡ true → FirstBreak d h (Some i)
    unfolding first_break breaks
    walk_long e = (omega (arith, s.each), sym (first_at (N d) (breaks d h) i (omega (arith, s.each)) s.none (rw (← at-k, e))))

    module _ (short : too_long d i k ≡ false) where
      pub walk_by : k ≤ P d + 1
      walk_by = (not_long d i k short).0

      pub walk_in : k < period_row
      walk_in = omega (arith, not_long d i k short, v.periods_to)

      pub walk_fits : get_or loads k 0 ≤ most_flights
      walk_fits = omega (arith, s.counted k walk_in, count_le i (land d h) k, s.upto, v.flights_to)

      here : get_or loads k 0 + 1 ≡ count (suc i) (land d h) (land d h i)
      here = rw (← at-k) (omega (arith, s.counted k walk_in, count_suc i (land d h) k, gate_eq (land d h i) k 1 (sym at-k)))

      pub walk_over : over_capacity d.capacities d.closing k (get_or loads k 0 + 1) ≡ true → FirstBreak d h (Some i)
      unfolding first_break breaks
      walk_over e = (omega (arith, s.each), sym (first_at (N d) (breaks d h) i (omega (arith, s.each)) s.none (rw (← here, ← at-k, short, e))))

      pub walk_next : over_capacity d.capacities d.closing k (get_or loads k 0 + 1) ≡ false → Walked d h (set loads k (get_or loads k 0 + 1)) (i + 1)
      unfolding breaks
      walk_next e = record {
        good = s.good;
        each = s.each;
        upto = omega (arith, s.each);
        sizes = length-set loads k _ ∙ s.sizes;
        counted = counted;
        none = none;
      }
        where
          counted : (j : ℕ) → j < period_row → get_or (set loads k (get_or loads k 0 + 1)) j 0 ≡ count (i + 1) (land d h) j
          counted j b = rw (add-one i) (elim (eq? j k) [
            | inl same ↦ rw same (omega (
              arith,
              get_or-set_same loads k (get_or loads k 0 + 1) 0 (omega (arith, s.sizes, walk_in)),
              s.counted k walk_in,
              count_suc i (land d h) k,
              gate_eq (land d h i) k 1 (sym at-k),
            ))
            | inr other ↦ omega (
              arith,
              get_or-set_other loads k j (get_or loads k 0 + 1) 0 other,
              s.counted j b,
              count_suc i (land d h) j,
              gate_ne (land d h i) j 1 (λ f. other (sym (at-k ∙ f))),
            )
          ])

          none : (j : ℕ) → j < i + 1 → breaks d h j ≡ false
          none j b = elim (eq? j i) [
            | inl same ↦ rw (same, ← here, ← at-k, short, e)
            | inr other ↦ s.none j (omega arith)
          ]

  pub walk_end : length h ≤ i → FirstBreak d h None
  unfolding first_break
  walk_end l = first_none (N d) (breaks d h) (λ j b. s.none j (omega (arith, s.each)))

-- a landing by the closing period is over capacity exactly where the period takes fewer; a closing period without a line takes more than
-- there are flights
pub over_taken : (capacities : List ℕ) (closing k m : ℕ) → k ≤ length capacities + 1 → m ≤ most_flights + 1
    → ltb (takes_of capacities closing k) m ≡ over_capacity capacities closing k m
unfolding over_capacity
over_taken capacities closing k m by few = elim (lt? (counted_of (length capacities) closing) k) [
  | inl past ↦
      let last : k ≡ length capacities + 1 = omega (arith, counted_from (length capacities) closing) in
      le-ltb (takes_of capacities closing k) m (omega (
        arith,
        ap (takes_of capacities closing) last,
        takes_closing capacities closing,
        uncounted (length capacities) closing (omega arith),
      ))
      ∙ rw (lt-leb k (counted_of (length capacities) closing) past)
  | inr in_day ↦ rw (le-leb k (counted_of (length capacities) closing) in_day)
]

-- what a period takes less than m, or not
pub over_if : (d : Day) (k m room : ℕ) → k ≤ P d + 1 → m ≤ most_flights + 1 → room ≡ takes d k → room < m → over_capacity d.capacities d.closing k m ≡ true
over_if d k m room by few is l = sym (over_taken d.capacities d.closing k m by few) ∙ lt-ltb _ _ (rw is at l)

pub not_over : (d : Day) (k m room : ℕ) → k ≤ P d + 1 → m ≤ most_flights + 1 → room ≡ takes d k → m ≤ room → over_capacity d.capacities d.closing k m ≡ false
not_over d k m room by few is l = sym (over_taken d.capacities d.closing k m by few) ∙ le-ltb _ _ (rw is at l)

-- ---- costs

-- the numbers of a day that passes its check are low enough
pub can_sum : (d : Day) {h : List ℕ} → valid d ≡ true → length h ≡ N d → CanSum d.flights h
can_sum d good each =
    let v = valid_means good in
    record { each = each; whole = v.whole; few = v.flights_to; rates = λ i l. (v.flight i l).rate_to; jumps = λ i l. (v.flight i l).jump_to }

module _ {f h : List ℕ} {s i : ℕ} (m : Summed f h s i) where
  pub sum_fits : s ≤ 5497558266880000
  sum_fits = omega (arith, m.most, m.upto, m.can.few)

  module _ {c : ℕ} (l : i < length h) (small : hold h i < 4294967296) (cost_is : c ≡ hold_cost (flight_at f i) (hold h i)) where
    pub cost_fits : c ≤ 42949673960000
    cost_fits =
        let low : i < flight_count f = omega (arith, m.can.each) in
        let p = mul-le-mul {n₁ = column 2 f i} {m₁ = hold h i} {n₂ = 10000} {m₂ = 4294967296} (m.can.rates i low) (omega arith) in
        omega (arith, cost_is, cost_most (day [] f unlimited) i (hold h i), m.can.jumps i low)

    pub sum_next : Summed f h (s + c) (i + 1)
    unfolding sum
    sum_next = record {
      can = m.can;
      upto = omega (arith, m.can.each);
      costs = rw (add-one i) (omega (arith, m.costs, cost_is));
      most = omega (arith, m.most, cost_fits);
    }

  pub sum_end : length h ≤ i → s ≡ total_of f h
  unfolding total_of
  sum_end l = let e : i ≡ flight_count f = omega (arith, m.can.each, m.upto) in m.costs ∙ ap (λ n. sum n (λ j. hold_cost (flight_at f j) (hold h j))) e

-- ---- the starts

module _ {d : Day} {h : List ℕ} (good : valid d ≡ true) (each : length h ≡ N d) where
  pub walk_start : Walked d h (replicate period_row 0) 0
  walk_start = record {
    good = good;
    each = each;
    upto = omega arith;
    sizes = refl;
    counted = λ k l. blank_at period_row k ∙ sym (count_zero (land d h) k);
    none = λ j l. absurd (omega arith);
  }

pub sum_start : {f h : List ℕ} → CanSum f h → Summed f h 0 0
unfolding sum
sum_start can = record { can = can; upto = omega arith; costs = refl; most = omega arith }

-- ---- the order of the refusals

module _ (d : Day) (h : List ℕ) where
  pub check_bad_day : valid d ≡ false → Err BadDay ≡ plan_check d h
  unfolding plan_check
  check_bad_day e = rw e

  module _ (good : valid d ≡ true) {n : ℕ} (flights : n ≡ N d) where
    pub check_bad_length : (length h ≡ n → ⊥) → Err (BadLength n) ≡ plan_check d h
    unfolding plan_check
    check_bad_length e = rw (good, ne_eqb (length h) (N d) (λ f. e (f ∙ sym flights)), flights)

    module _ (each : length h ≡ n) where
      pub check_not_legal : {place : ℕ} → FirstBreak d h (Some place) → Err (NotLegal place) ≡ plan_check d h
      unfolding plan_check walked
      check_not_legal b = rw (good, eq-eqb (length h) (N d) (each ∙ flights), ne_eqb (first_break d h) (N d) (λ f. omega (arith, b, f)), b.1)

      pub check_legal : FirstBreak d h None → {t : ℕ} → t ≡ total d h → Ok t ≡ plan_check d h
      unfolding plan_check walked
      check_legal e f = rw (good, eq-eqb (length h) (N d) (each ∙ flights), eq-eqb (first_break d h) (N d) e, f)
