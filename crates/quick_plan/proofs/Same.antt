-- Days with the same capacities, as many flights, the same dues and the same order of the flights have the same quick plan, whatever their
-- closing numbers.
-- Assumes nothing.
use mathlib.Core.Path.{◌≡◌, refl, ap, ◌∙◌}
use mathlib.Core.Bool.{Bool, true, ◌&&◌}
use mathlib.Core.List.{List}
use Prim.Native.Nat.{ℕ, zero, suc, ◌-◌, ◌≤◌, ◌<◌}
use native.Mathlib.Omega.{arith}
use Rattle.assignment.specs.Sum.{gate, sum}
use Rattle.assignment.specs.Rows.{row}
use Rattle.assignment.proofs.Sums.{sum_ext}
use Rattle.assignment.proofs.Rows.{row_ext}
use Rattle.day.specs.Day.{Day, day, unlimited, P, N, due, capacity, valid}
use Rattle.day.proofs.Curfew.{valid_open}
use Rattle.quick_plan.specs.Quick.{ahead, going_before, highest, eligible, operates, lands, quick_by}
use Rattle.quick_plan.specs.Loop.{without_line}

-- what the quick plan reads of a day besides the capacities
pub record SameOrder (d e : Day) (next other : ℕ → ℕ → ℕ) : Type 0 where
  pub count : N d ≡ N e
  pub dues : (i : ℕ) → i < N d → due d i ≡ due e i
  pub order : (j k i : ℕ) → j ≤ P d → k < N d → i < N d → ahead d (next j) k i ≡ ahead e (other j) k i

module _ (capacities flights others : List ℕ) (closing closing₂ : ℕ) (next other : ℕ → ℕ → ℕ)
    (same : SameOrder (day capacities flights closing) (day capacities others closing₂) next other) where
  abbrev d : Day
  d = day capacities flights closing

  abbrev e : Day
  e = day capacities others closing₂

  before_same : (j : ℕ) → j ≤ P d → (s t : ℕ → Bool) → ((k : ℕ) → k < N d → s k ≡ t k) → (i : ℕ) → i < N d
      → going_before d (next j) s i ≡ going_before e (other j) t i
  unfolding going_before
  before_same j p s t h i l =
      sum_ext (N d) (λ k. gate (s k && ahead d (next j) k i) 1) (λ k. gate (t k && ahead e (other j) k i) 1) (λ k b. rw (h k b, same.order j k i p b l))
      ∙ ap (λ n. sum n (λ k. gate (t k && ahead e (other j) k i) 1)) same.count

  highest_same : (j : ℕ) → j ≤ P d → (m : ℕ) (s t : ℕ → Bool) → ((k : ℕ) → k < N d → s k ≡ t k) → (i : ℕ) → i < N d
      → highest d (next j) m s i ≡ highest e (other j) m t i
  unfolding highest
  highest_same j p m s t h i l = rw (h i l, before_same j p s t h i l)

  eligible_same : (j : ℕ) → j ≤ P d → (i : ℕ) → i < N d → eligible d next j i ≡ eligible e other j i
  unfolding eligible
  eligible_same zero p i l = refl
  eligible_same (suc j) p i l =
      let before = eligible_same j (omega arith) in
      rw (same.dues i l, before i l, highest_same j (omega arith) (capacity d j) (eligible d next j) (eligible e other j) before i l)

  lands_same : (j : ℕ) → j ≤ P d → (i : ℕ) → i < N d → lands d next j i ≡ lands e other j i
  unfolding lands operates
  lands_same zero p i l = refl
  lands_same (suc j) p i l =
      rw (highest_same (suc j) p (capacity d (suc j)) (eligible d next (suc j)) (eligible e other (suc j)) (eligible_same (suc j) p) i l, lands_same j (omega arith) i l)

  pub quick_same : quick_by d next ≡ quick_by e other
  unfolding quick_by
  quick_same =
      row_ext (N d) (λ i. lands d next (P d) i - due d i) (λ i. lands e other (P e) i - due e i) (λ i l. rw (lands_same (P d) (omega arith) i l, same.dues i l))
      ∙ ap (λ n. row n (λ i. lands e other (P e) i - due e i)) same.count

-- so the closing line changes neither who is eligible nor the plan
module _ (d : Day) (next : ℕ → ℕ → ℕ) where
  same_rows : SameOrder (without_line d) d next next
  same_rows = record { count = refl; dues = λ i l. refl; order = λ j k i p a b. refl }

  pub any_closing : quick_by (without_line d) next ≡ quick_by d next
  any_closing = quick_same d.capacities d.flights d.flights unlimited d.closing next next same_rows

  pub eligible_any : (j : ℕ) → j ≤ P d → (i : ℕ) → i < N d → eligible (without_line d) next j i ≡ eligible d next j i
  eligible_any = eligible_same d.capacities d.flights d.flights unlimited d.closing next next same_rows

-- and a valid day is valid without it
pub valid_rows : (d : Day) → valid d ≡ true → valid (without_line d) ≡ true
valid_rows = valid_open
