-- The call: its refusals in their order, the rows that the text is read into, and the plan copied.
-- Assumes nothing.
use Rattle.std.proofs.Common.{Result, Ok, Err}
use Prim.Native.Nat.{ℕ, ◌≤◌, ◌<◌, ◌-◌}
use native.Mathlib.Omega.{arith}
use mathlib.Core.Path.{◌≡◌, refl, sym, ap, ◌∙◌}
use mathlib.Core.Bool.{true, false}
use mathlib.Core.List.{List}
use lib.ListN.{length, take}
use lib.Seq.{length-take-le, get_or-take}
use borrow.Author.Tests.{eq-eqb, ne_eqb}
use Rattle.answers.specs.declared.Refusal.{Refusal}
use Rattle.answers.specs.declared.Refusal.TheVariants.{BadDay, BadLength, BadPlanText}
use Rattle.day.specs.Day.{Day, P, N, most_periods, valid}
use Rattle.day.proofs.Costs.{period_in}
use Rattle.day.proofs.Valid.{valid_means}
use Rattle.completion.specs.Loop.{AllPlaces, Partial}
use Rattle.completion.proofs.Completion.{partial_start}
use Rattle.plan_reader.specs.PlanReading.{TextRead, accepted, refused, ReadPlan}
use Rattle.plan_reader.specs.Loop.{wrong_at, RowsRead, LargeRows}

-- ---- the call

module _ (d : Day) (s h : List ℕ) where
  pub call_bad_day : valid d ≡ false → ReadPlan d s (Err BadDay) h h
  unfolding ReadPlan
  call_bad_day bad = rw bad (refl, refl)

  module _ (good : valid d ≡ true) {n : ℕ} (is : n ≡ N d) where
    pub call_bad_length : (length h ≡ n → ⊥) → ReadPlan d s (Err (BadLength n)) h h
    unfolding ReadPlan
    call_bad_length other = rw (good, ne_eqb (length h) (N d) (λ e. other (e ∙ sym is)), is) (refl, refl)

    pub call_read : length h ≡ n → {a : Result ℕ Refusal} {h₂ : List ℕ} → TextRead d s a h h₂ → ReadPlan d s a h h₂
    unfolding ReadPlan
    call_read each r = rw (good, eq-eqb (length h) (N d) (each ∙ is)) r

  pub call_refused : (row : List ℕ) {x : ℕ} → RowsRead d s row (wrong_at x) → TextRead d s (Err (BadPlanText x)) h h
  call_refused row {x} (wrong, other) = refused (record { line = x; first_wrong = wrong; other = other; line_is = refl; same_holds = refl })

  pub call_accepted : {t : ℕ} {row h₂ : List ℕ} → RowsRead d s row (Ok t) → h₂ ≡ row → TextRead d s (Ok t) h h₂
  call_accepted (legal, (is, sum)) e = rw e (accepted (record { legal = legal; text_is = is; total_is = ap Ok sum }))

-- ---- rows that are large enough for any day

module _ {d : Day} {h row left : List ℕ} (r : LargeRows d h row left) where
  pub row_holds : length h ≤ length row
  row_holds = omega (arith, (valid_means r.good).flights_to, r.each, r.row_long)

  pub left_holds : (P d ≤ most_periods) × (P d < length left)
  left_holds = let to = (valid_means r.good).periods_to in (to, omega (arith, to, r.left_long))

  -- the places of the whole day stand in the front of a row
  pub in_starts : {places : List ℕ} {n : ℕ} → AllPlaces d.capacities d.closing places n
      → Partial d (take (length h) row) (take n places) 0
  in_starts {places} {n} all =
      partial_start r.good (length-take-le (length h) row row_holds ∙ r.each) (length-take-le n places all.there ∙ all.counted_is)
      (λ k a b.
      let to : k ≤ n = omega (arith, all.counted_is) in
      period_in (take n places) k (omega arith) ∙ get_or-take n places (k - 1) 0 (omega arith) ∙ sym (period_in places k (omega arith)) ∙ all.each k a to)
