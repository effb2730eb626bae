-- How the program makes the quick plan's row, landing by landing: only inner contracts cite it. proofs/Rows.antt has that it is the
-- quick plan.
-- Assumes nothing.
use Rattle.std.specs.Prelude.{Bool, cond, ◌&&◌, ◌||◌, List, ℕ, zero, suc, ◌+◌, ◌-◌, ◌*◌, ◌≤◌, length, set, leb, eqb}
use Rattle.std.specs.Borrow.{Bor}
use Rattle.day.specs.Day.{Day, day, lent, unlimited, P, N, width, due_of, due, capacity, land}
use Rattle.assignment.specs.Rows.{row}
use Rattle.quick_plan.specs.Quick.{ahead}

-- the day without its closing line: how the flights land period by period does not depend on it
abbrev pub without_line : Day → Day
without_line d = day d.capacities d.flights unlimited

-- such a day, in two lent rows
abbrev pub lent_rows : (capacities flights : Bor (List ℕ)) → Day
lent_rows capacities flights = lent capacities flights unlimited

-- flight i stands in the row, and is due by period j
pub record DueBy (flights : List ℕ) (j i : ℕ) : Type 0 where
  pub there : (i + 1) * width ≤ length flights
  pub from : 1 ≤ due_of flights i
  pub by : due_of flights i ≤ j

-- the better of flight k, if it is in the set, and b, which is `none` for none
unfoldable pub pick : Day → (ℕ → ℕ) → (ℕ → Bool) → ℕ → ℕ → ℕ → ℕ
pick d costs e none k b = cond (e k && (eqb b none || ahead d costs k b)) k b

-- the best of the flights 0 .. k - 1 that are in the set
unfoldable pub best_to : Day → (ℕ → ℕ) → (ℕ → Bool) → ℕ → ℕ → ℕ
best_to d costs e none zero = none
best_to d costs e none (suc k) = pick d costs e none k (best_to d costs e none k)

-- the hold with which flight i stands at the closing period
abbrev pub at_closing : Day → ℕ → ℕ
at_closing d i = P d + 1 - due d i

-- flight i is due by period j and stands at the closing period yet
unfoldable pub waiting : Day → List ℕ → ℕ → ℕ → Bool
waiting d holds j i = leb (due d i) j && eqb (land d holds i) (P d + 1)

-- the best of the flights that wait in period j, or N
unfoldable pub top : Day → (ℕ → ℕ) → ℕ → List ℕ → ℕ
top d costs j holds = best_to d costs (waiting d holds j) (N d) (N d)

-- flight b lands in period j
abbrev pub put : Day → ℕ → List ℕ → ℕ → List ℕ
put d j holds b = set holds b (j - due d b)

-- m landings in period j, or as many as there are flights that wait
unfoldable pub land_all : Day → (ℕ → ℕ) → ℕ → ℕ → List ℕ → List ℕ
land_all d costs j zero holds = holds
land_all d costs j (suc m) holds = cond (eqb (top d costs j holds) (N d)) holds (land_all d costs j m (put d j holds (top d costs j holds)))

-- the row after the periods 1 to j: at first every flight stands at the closing period
unfoldable pub row_to : Day → (ℕ → ℕ → ℕ) → ℕ → List ℕ
row_to d next zero = row (N d) (at_closing d)
row_to d next (suc j) = land_all d (next (suc j)) (suc j) (capacity d (suc j)) (row_to d next j)
