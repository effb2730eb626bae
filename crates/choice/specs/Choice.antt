-- Choice: "lent two hold rows for a day, it hands back the cheaper legal row itself, the first when costs are equal; the only legal one if
-- one is; the empty front part of the first if neither is. A bad day or a row of another length counts as not legal."
-- Assumes nothing.
use Rattle.std.specs.Prelude.{◌≡◌, cond, List, ℕ, leb, Option, Some, None, Result, Ok, Err}
use Rattle.answers.specs.declared.Refusal.{Refusal}
use Rattle.day.specs.Day.{Day}
use Rattle.legality.specs.Check.{plan_check}
use Rattle.choice.specs.declared.Which.{Which}
use Rattle.choice.specs.declared.Which.TheVariants.{First, Second}

abbrev pub cheaper : Result ℕ Refusal → Result ℕ Refusal → Option Which
cheaper (Ok s) (Ok t) = Some (cond (leb s t) First Second)
cheaper (Ok s) (Err _) = Some First
cheaper (Err _) (Ok t) = Some Second
cheaper (Err _) (Err _) = None

unfoldable pub choice : Day → (one other : List ℕ) → Option Which
choice d one other = cheaper (plan_check d one) (plan_check d other)

-- r is that row itself; where it is neither, what is said of r instead
abbrev pub Chosen {ℓ} : {A : Type ℓ} → Option Which → (r one other : A) → Type ℓ → Type ℓ
Chosen (Some First) r one other front = r ≡ one
Chosen (Some Second) r one other front = r ≡ other
Chosen None r one other front = front
