-- What the full plan's contract comes to: answer 9 exactly when there is no legal plan, the quick plan's total where that applies, one
-- answer and one price row for each day, and what a closing line changes.
-- Assumes nothing.
use Rattle.std.proofs.Common.{Result, Ok, Err}
use mathlib.Core.Path.{◌≡◌, sym, ap, ◌∙◌}
use mathlib.Core.Logic.{inl, inr, ◌↔◌}
use mathlib.Core.Bool.{true}
use mathlib.Core.List.{List, [], ◌∷◌, ◌++◌}
use Prim.Native.Nat.{ℕ, ◌≤◌, ◌<◌}
use native.Mathlib.Omega.{arith}
use lib.ListN.{length}
use borrow.Author.Tests.{eq-eqb}
use Rattle.assignment.proofs.Tests.{eq?, lt?}
use Rattle.answers.specs.declared.Refusal.{Refusal}
use Rattle.answers.specs.declared.Refusal.TheVariants.{NoPlan}
use Rattle.day.specs.Day.{Day, day, unlimited, N, counted, of_period, total, valid}
use Rattle.day.specs.Plan.{Legal, Cheapest, first_jump_or_limit}
use Rattle.day.proofs.Costs.{period_out}
use Rattle.day.proofs.Instance.{short_has_no_plan, total_le}
use Rattle.day.proofs.Prices.{one_row}
use Rattle.day.proofs.Valid.{valid_means, valid_flights}
use Rattle.day.proofs.Curfew.{same_cheapest, cheapest_with, with_smallest, with_saves}
use Rattle.quick_plan.specs.Quick.{quick}
use Rattle.quick_plan.proofs.Cheapest.{same_total}
use Rattle.full_plan.specs.FullPlan.{BestPlan, Solved, plan, none, FullPlan}

-- the answer is 9 with some stretch
pub record IsNine (answer : Result ℕ Refusal) : Type 0 where
  pub first : ℕ
  pub last : ℕ
  pub nine : answer ≡ Err (NoPlan first last)

-- what a day and rows get that get neither 6 nor 7
pub accepted_call : {d : Day} {a : Result ℕ Refusal} {h p h' p' : List ℕ} → valid d ≡ true → length h ≡ N d → length p ≡ counted d
    → FullPlan d a h p h' p' → Solved d a h p h' p'
unfolding FullPlan
accepted_call {d} {a} {h} {p} good holds prices call = rw (good, eq-eqb (length h) (N d) holds, eq-eqb (length p) (counted d) prices) at call

not_nine : {t a b : ℕ} → ◌≡◌ {A = Result ℕ Refusal} (Ok t) (Err (NoPlan a b)) → ⊥
not_nine e = let z : ◌≡◌ {A = ℕ} 0 1 = cc in omega (arith, z)

-- "no plan" exactly when none exists
pub nine_exactly : {d : Day} {a : Result ℕ Refusal} {h p h' p' : List ℕ} → valid d ≡ true → Solved d a h p h' p'
    → IsNine a ↔ ((g : List ℕ) → Legal d g → ⊥)
nine_exactly {d} {a} good (plan s) = (
  (λ w g legal. not_nine (sym s.total_is ∙ w.nine)),
  (λ empty. absurd (empty _ s.cheapest.legal)),
)
nine_exactly {d} {a} good (none s) = (
  (λ w g legal. short_has_no_plan (valid_means good) s.picked.short legal),
  (λ empty. record { first = s.first; last = s.last; nine = s.stretch_is }),
)

planned_total : {t u : ℕ} → ◌≡◌ {A = Result ℕ Refusal} (Ok t) (Ok u) → t ≡ u
planned_total e = cc

-- "Where quick plan applies, both totals are equal."
pub totals_equal : {d : Day} {t : ℕ} {h p h' p' : List ℕ} → valid d ≡ true → first_jump_or_limit d.flights ≡ N d → Solved d (Ok t) h p h' p'
    → t ≡ total d (quick d)
totals_equal {d} {t} {h} {p} {h'} good applies (plan s) = planned_total s.total_is ∙ sym (same_total d good applies h' s.cheapest)
totals_equal good applies (none s) = absurd (not_nine s.stretch_is)

-- whichever cheapest plan it takes, a day has one answer and one price row
pub one_answer : {d : Day} {a b : Result ℕ Refusal} {h p g r : List ℕ} → BestPlan d a h p → BestPlan d b g r → (a ≡ b) × (p ≡ r)
one_answer {d} {a} {b} {h} {p} {g} {r} s t = (s.total_is ∙ ap Ok same ∙ sym t.total_is, one_row s.smallest t.smallest)
  where
    same : total d h ≡ total d g
    same = omega (arith, s.cheapest.least g t.cheapest.legal, t.cheapest.least h s.cheapest.legal)

-- no price is above the total, and so none above 250,880,000
pub price_to_total : {d : Day} {a : Result ℕ Refusal} {h p : List ℕ} → BestPlan d a h p → (k : ℕ) → of_period p k ≤ total d h
price_to_total {d} {a} {h} {p} s k = elim (eq? k 0) [
  | inl e ↦ rw e (omega arith)
  | inr some ↦ elim (lt? (counted d) k) [
    | inl past ↦ omega (arith, period_out p k (omega (arith, s.smallest.accepted.each)))
    | inr to ↦ omega (arith, (s.saves k (omega arith) to).falls_by)
  ]
]

pub price_low : {d : Day} {a : Result ℕ Refusal} {h p : List ℕ} → valid d ≡ true → BestPlan d a h p → (k : ℕ) → of_period p k ≤ 250880000
price_low good s k = omega (arith, price_to_total s k, total_le (valid_means good) s.cheapest.legal)

-- A closing line either leaves a day without a legal plan, which is then not planned, or changes no cheapest plan and no price but for the
-- added 0, and so no answer.
pub line_changes_nothing : (c f : List ℕ) (closing : ℕ) → closing < unlimited → valid (day c f closing) ≡ true → {a b : Result ℕ Refusal} {h p g r : List ℕ}
    → BestPlan (day c f unlimited) a h p → BestPlan (day c f closing) b g r
    → (b ≡ a) × (r ≡ p ++ (0 ∷ [])) × ((x : List ℕ) → Cheapest (day c f closing) x ↔ Cheapest (day c f unlimited) x)
line_changes_nothing c f closing line good {a} {b} {h} {p} s t = (
  (one_answer t with_line_lem).0,
  (one_answer t with_line_lem).1,
  same_cheapest c f closing unlimited (omega arith) (valid_flights (valid_means good)) s.cheapest t.cheapest.legal,
)
  where
    with_line_lem : BestPlan (day c f closing) a h (p ++ (0 ∷ []))
    with_line_lem = record {
      total_is = s.total_is;
      cheapest = cheapest_with c f closing unlimited (omega arith) (valid_flights (valid_means good)) s.cheapest t.cheapest.legal;
      smallest = with_smallest c f closing line (valid_means good) s.smallest s.saves t.cheapest.legal;
      saves = with_saves c f closing line (valid_means good) s.smallest s.saves t.cheapest.legal;
    }
