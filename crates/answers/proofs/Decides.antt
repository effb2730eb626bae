-- How a statement is decided.
-- Assumes nothing.
use mathlib.Core.Path.{◌≡◌, sym, ap}
use mathlib.Core.Bool.{true, false, cond}
use Prim.Native.Nat.{ℕ}
use native.Mathlib.Omega.{arith}
use Rattle.answers.specs.Decides.{Decides}

pub true_false : true ≡ false → ⊥
true_false e = omega (arith, ap {B = ℕ} (λ b. cond b 1 0) e)

pub say_yes : {A : Type 0} → A → Decides true A
say_yes a = record { yes = λ _. a; no = λ e. absurd (true_false e) }

pub say_no : {A : Type 0} → (A → ⊥) → Decides false A
say_no n = record { yes = λ e. absurd (true_false (sym e)); no = λ _. n }
