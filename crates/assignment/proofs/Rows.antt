-- The laws of rows: made entry by entry, blank, and with one entry stored.
-- Assumes nothing.
use mathlib.Core.Path.{◌≡◌, refl, ◌∙◌}
use mathlib.Core.Logic.{inl, inr}
use mathlib.Core.List.{List, [], ◌∷◌}
use Prim.Native.Nat.{ℕ, zero, suc, ◌<◌}
use native.Mathlib.Omega.{arith}
use lib.ListN.{length, get_or, set, replicate, length-append, length-replicate, get_or-replicate, get_or-append, get_or-eq_default}
use lib.Seq.{get_or_at, get_or-set_same, get_or-set_other}
use Rattle.assignment.specs.Rows.{el, row}
use Rattle.assignment.specs.Moves.{Moved}
use Rattle.assignment.proofs.Tests.{eq?, lt?}

pub row_length {ℓ} : {A : Type ℓ} (n : ℕ) (g : ℕ → A) → length (row n g) ≡ n
unfolding row
row_length zero g = refl
row_length (suc n) g = simp length-append (omega (arith, row_length n g))

pub row_at {ℓ} : {A : Type ℓ} (n : ℕ) (g : ℕ → A) (i : ℕ) (d : A) → i < n → get_or (row n g) i d ≡ g i
unfolding row
row_at zero g i d l = absurd (omega arith)
row_at (suc n) g i d l = elim (eq? i n) [
  | inl e ↦ rw e (get_or_at (row n g) (g n) [] d n (row_length n g))
  | inr o ↦ get_or-append (row n g) (g n ∷ []) d i (omega (arith, row_length n g)) ∙ row_at n g i d (omega arith)
]

pub row_ext {ℓ} : {A : Type ℓ} (n : ℕ) (g h : ℕ → A) → ((i : ℕ) → i < n → g i ≡ h i) → row n g ≡ row n h
unfolding row
row_ext zero g h e = refl
row_ext (suc n) g h e = rw (row_ext n g h (λ i l. e i (omega arith)), e n (omega arith))

-- a blank row has 0 at every index, past its end too
pub blank_at : (m k : ℕ) → el (replicate m 0) k ≡ 0
blank_at m k = elim (lt? k m) [
  | inl l ↦ get_or-replicate {A = ℕ} m k 0 0 l
  | inr l ↦ get_or-eq_default (replicate m 0) 0 (omega (arith, length-replicate {A = ℕ} m 0))
]

pub set_moved : (l : List ℕ) (i v : ℕ) → i < length l → Moved (el l) (el (set l i v)) i v
set_moved l i v b = record { here = get_or-set_same l i v 0 b; others = λ o e. get_or-set_other l i o v 0 e }
