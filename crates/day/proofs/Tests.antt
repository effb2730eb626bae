-- The laws of a test of all indices, and of the first index that passes a test.
-- Assumes nothing.
use mathlib.Core.Path.{◌≡◌, refl, sym, ap, ◌∙◌}
use mathlib.Core.Logic.{inl, inr}
use mathlib.Core.Bool.{Bool, true, false, cond, ◌&&◌}
use mathlib.Core.List.{List, [], ◌∷◌}
use lib.ListN.{length, get_or}
use Rattle.std.specs.List.{list_all, range_with_len}
use Prim.Native.Nat.{ℕ, zero, suc, ◌+◌, ◌≤◌, ◌<◌, zero-le}
use native.Mathlib.Omega.{arith}
use native.Mathlib.Numerals.{add-one}
use Rattle.assignment.proofs.Tests.{eq?, and_true, true_and, and_false, and_assoc}
use Rattle.day.specs.Day.{all}
use Rattle.day.specs.Plan.{first_of}

-- ---- all

pub all_next : (n : ℕ) (f : ℕ → Bool) → all n f ≡ true → f n ≡ true → all (n + 1) f ≡ true
unfolding all
all_next n f e h = rw (add-one, e, h)

pub all_at : (n : ℕ) (f : ℕ → Bool) → all n f ≡ true → (i : ℕ) → i < n → f i ≡ true
unfolding all
all_at zero f e i l = absurd (omega arith)
all_at (suc n) f e i l = elim (eq? i n) [ inl s ↦ rw s (and_true {a = all n f} {b = f n} e).1 | inr o ↦ all_at n f (and_true {a = all n f} {b = f n} e).0 i (omega arith) ]

pub all_from : (n : ℕ) (f : ℕ → Bool) → ((i : ℕ) → i < n → f i ≡ true) → all n f ≡ true
unfolding all
all_from zero f h = refl
all_from (suc n) f h = true_and (all_from n f (λ i l. h i (omega arith))) (h n (omega arith))

pub all_not : (n : ℕ) (f : ℕ → Bool) (i : ℕ) → i < n → f i ≡ false → all n f ≡ false
unfolding all
all_not zero f i l e = absurd (omega arith)
all_not (suc n) f i l e = elim (eq? i n) [
  | inl s ↦ rw (ap f (sym s) ∙ e) (and_false (all n f))
  | inr o ↦ rw (all_not n f i (omega arith) e)
]

-- ---- the first

pub first_at : (n : ℕ) (f : ℕ → Bool) (i : ℕ) → i < n → ((j : ℕ) → j < i → f j ≡ false) → f i ≡ true → first_of n f ≡ i
unfolding first_of
first_at zero f i l h e = absurd (omega arith)
first_at (suc n) f zero l h e = rw e
first_at (suc n) f (suc i) l h e = rw (h 0 (omega arith)) (ap suc (first_at n (λ j. f (suc j)) i (omega arith) (λ j b. h (suc j) (omega arith)) e))

pub first_none : (n : ℕ) (f : ℕ → Bool) → ((j : ℕ) → j < n → f j ≡ false) → first_of n f ≡ n
unfolding first_of
first_none zero f h = refl
first_none (suc n) f h = rw (h 0 (omega arith)) (ap suc (first_none n (λ j. f (suc j)) (λ j b. h (suc j) (omega arith))))

pub first_le : (n : ℕ) (f : ℕ → Bool) → first_of n f ≤ n
unfolding first_of
first_le zero f = zero-le
first_le (suc n) f = elim (f 0) as (λ t. cond t 0 (suc (first_of n (λ i. f (suc i)))) ≤ suc n) [
  | true ↦ zero-le
  | false ↦ omega (arith, first_le n (λ i. f (suc i)))
]

-- it is the same for tests that agree
pub first_same : (n : ℕ) (f g : ℕ → Bool) → ((i : ℕ) → i < n → f i ≡ g i) → first_of n f ≡ first_of n g
unfolding first_of
first_same zero f g h = refl
first_same (suc n) f g h = rw (h 0 (omega arith), first_same n (λ i. f (suc i)) (λ i. g (suc i)) (λ i l. h (suc i) (omega arith)))

-- where the first is none, none passes
pub none_passes : (n : ℕ) (f : ℕ → Bool) → first_of n f ≡ n → (i : ℕ) → i < n → f i ≡ false
unfolding first_of
none_passes zero f e i l = absurd (omega arith)
none_passes (suc n) f e i l = at (f 0) refl e (none_passes n (λ j. f (suc j))) i l
  where
    at : (t : Bool) → f 0 ≡ t → cond t 0 (suc (first_of n (λ j. f (suc j)))) ≡ suc n
        → (first_of n (λ j. f (suc j)) ≡ n → (i : ℕ) → i < n → f (suc i) ≡ false) → (i : ℕ) → i < suc n → f i ≡ false
    at true s e rest i l = absurd (omega arith)
    at false s e rest zero l = s
    at false s e rest (suc i) l = rest (omega arith) i (omega arith)

-- ---- against std's test of all entries of a list

-- the first index first
all_first : (n : ℕ) (f : ℕ → Bool) → all (suc n) f ≡ (f 0 && all n (λ i. f (suc i)))
unfolding all
all_first zero f = elim (f 0) as (λ t. (true && t) ≡ (t && true)) [ true ↦ refl | false ↦ refl ]
all_first (suc n) f = rw (all_first n f) (sym (and_assoc (f 0) _ _))

pub all_of_list : (test : ℕ → Bool) (xs : List ℕ) → list_all test xs ≡ all (length xs) (λ k. test (get_or xs k 0))
unfolding all
all_of_list test [] = refl
all_of_list test (x ∷ xs) = rw (all_first (length xs) (λ k. test (get_or (x ∷ xs) k 0)), all_of_list test xs)

pub all_of_range : (test f : ℕ → Bool) (n from : ℕ) → ((k : ℕ) → test (from + k) ≡ f k) → list_all test (range_with_len from n) ≡ all n f
unfolding all
all_of_range test f zero from h = refl
all_of_range test f (suc n) from h =
    let e : from + 0 ≡ from = omega arith in
    let here = rw e at (h 0) in
    let rest = all_of_range test (λ k. f (suc k)) n (from + 1) (λ k. let s : from + 1 + k ≡ from + suc k = omega arith in rw s (h (suc k))) in
    rw (all_first n f, rest, here)
