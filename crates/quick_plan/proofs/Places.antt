-- A table place that is there, or not.
-- Assumes nothing.
use mathlib.Core.Path.{◌≡◌, sym}
use mathlib.Core.Logic.{inl, inr}
use Prim.Native.Nat.{ℕ, ◌≤◌, ◌<◌}
use borrow.Author.Tests.{lt-ltb, le-ltb}
use Rattle.std.specs.Prelude.{Some, None}
use Rattle.std.proofs.lemmas.Option.{none-some}
use Rattle.assignment.proofs.Tests.{lt?}
use Rattle.quick_plan.specs.Calls.{place_if}

pub some_place : {n i place : ℕ} → place_if n i ≡ Some place → (place ≡ i) × (i < n)
some_place {n} {i} {place} e = elim (lt? i n) [
  | inl l ↦ (let s = rw (lt-ltb i n l) at e in cc, l)
  | inr g ↦ (let s = rw (le-ltb i n g) at e in absurd (none-some place s))
]

pub no_place : {n i : ℕ} → place_if n i ≡ None → n ≤ i
no_place {n} {i} e = elim (lt? i n) [
  | inl l ↦ (let s = rw (lt-ltb i n l) at e in absurd (none-some i (sym s)))
  | inr g ↦ g
]
