-- An outcome, taken apart as contracts have it.
-- Assumes nothing.
use mathlib.Core.Path.{◌≡◌, sym, ap, ◌∙◌}
use mathlib.Core.List.{List}
use Rattle.std.specs.Prelude.{ℕ, Result}
use Rattle.answers.specs.declared.Refusal.{Refusal}
use Rattle.answers.specs.Answers.{Outcome, outcome}

pub says : {o : Outcome} {a : Result ℕ Refusal} {x : List ℕ} → o ≡ outcome a x → (a ≡ o.answer) × (x ≡ o.holds)
says e = (ap (λ o. o.answer) (sym e), ap (λ o. o.holds) (sym e))

-- and one that is another
pub says_as : {o other : Outcome} {a : Result ℕ Refusal} {x : List ℕ} → o ≡ other → (a ≡ other.answer) × (x ≡ other.holds) → (a ≡ o.answer) × (x ≡ o.holds)
says_as e s = (s.0 ∙ ap (λ o. o.answer) (sym e), s.1 ∙ ap (λ o. o.holds) (sym e))
