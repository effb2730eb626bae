-- Who goes before whom does not change where all costs are multiplied by the same.
-- Assumes nothing.
use mathlib.Core.Path.{◌≡◌}
use mathlib.Core.Logic.{inl, inr}
use mathlib.Core.List.{List}
use Prim.Native.Nat.{ℕ, ◌*◌, ◌<◌, ◌≤◌}
use native.Mathlib.Omega.{arith}
use native.Mathlib.Nat.{mul-le-mul_right, le_of_mul-le-mul_right}
use lib.Dec.{ltb, eqb}
use borrow.Author.Tests.{lt-ltb, le-ltb, eq-eqb, ne_eqb}
use Rattle.assignment.proofs.Tests.{lt?, eq?}
use Rattle.quick_plan.specs.Quick.{before, ahead_of}

module _ (m n : ℕ) (some : 0 < m) (more : 0 < n) where
  -- x and y are the m-th part of n times x₀ and y₀
  module _ (x₀ y₀ x y : ℕ) (ex : x * m ≡ x₀ * n) (ey : y * m ≡ y₀ * n) where
    le_back : x₀ ≤ y₀ → x ≤ y
    le_back l = le_of_mul-le-mul_right (rw (ex, ey) (mul-le-mul_right n l)) some

    le_forth : x ≤ y → x₀ ≤ y₀
    le_forth l = le_of_mul-le-mul_right (rw (← ex, ← ey) (mul-le-mul_right m l)) more

  module _ (x₀ y₀ x y : ℕ) (ex : x * m ≡ x₀ * n) (ey : y * m ≡ y₀ * n) where
    ltb_same : ltb x₀ y₀ ≡ ltb x y
    ltb_same = elim (lt? x₀ y₀) [
      | inl l ↦ rw (lt-ltb x₀ y₀ l, lt-ltb x y (elim (lt? x y) [ inl b ↦ b | inr g ↦ absurd (omega (arith, le_forth y₀ x₀ y x ey ex g)) ]))
      | inr g ↦ rw (le-ltb x₀ y₀ g, le-ltb x y (le_back y₀ x₀ y x ey ex g))
    ]

    eqb_same : eqb x₀ y₀ ≡ eqb x y
    eqb_same = elim (eq? x₀ y₀) [
      | inl e ↦ rw (eq-eqb x₀ y₀ e, eq-eqb x y (omega (arith, le_back x₀ y₀ x y ex ey (omega arith), le_back y₀ x₀ y x ey ex (omega arith))))
      | inr o ↦ rw (ne_eqb x₀ y₀ o, ne_eqb x y (λ e. o (omega (arith, le_forth x₀ y₀ x y ex ey (omega arith), le_forth y₀ x₀ y x ey ex (omega arith)))))
    ]

  pub ahead_scaled : (flights : List ℕ) (before after : ℕ → ℕ) (k i : ℕ) → after k * m ≡ before k * n → after i * m ≡ before i * n
      → ahead_of flights before k i ≡ ahead_of flights after k i
  unfolding before ahead_of
  ahead_scaled flights before after k i ek ei =
      rw (ltb_same (before i) (before k) (after i) (after k) ei ek, eqb_same (before i) (before k) (after i) (after k) ei ek)
