-- What is found of a day and a hold row, in document 01's order of refusals: 6, 7, 10; else the plan's total.
-- Assumes nothing.
use Rattle.std.specs.Prelude.{cond, List, ℕ, length, eqb, Result, Ok, Err}
use Rattle.answers.specs.declared.Refusal.{Refusal}
use Rattle.answers.specs.declared.Refusal.TheVariants.{BadDay, BadLength, NotLegal}
use Rattle.day.specs.Day.{Day, N, total, valid}
use Rattle.day.specs.Plan.{first_break}

-- of a row of N holds: the first flight that breaks it, or the total
unfoldable pub walked : Day → List ℕ → Result ℕ Refusal
walked d holds = cond (eqb (first_break d holds) (N d)) (Ok (total d holds)) (Err (NotLegal (first_break d holds)))

unfoldable pub plan_check : Day → List ℕ → Result ℕ Refusal
unfolding walked
plan_check d holds = cond (valid d) (cond (eqb (length holds) (N d)) (walked d holds) (Err (BadLength (N d)))) (Err BadDay)

-- how a call goes on: with a legal plan's total, or with the refusal
abbrev pub on_plan {ℓ} : {A : Type ℓ} → Result ℕ Refusal → (ℕ → A) → (Refusal → A) → A
on_plan (Ok total) legal refused = legal total
on_plan (Err answer) legal refused = refused answer
