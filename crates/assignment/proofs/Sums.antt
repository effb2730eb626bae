-- The laws of sums and counts; among them the exchange of a sum over flights with one over periods.
-- Assumes nothing.
use mathlib.Core.Path.{◌≡◌, refl, sym, ap, ap₂, ◌∙◌}
use mathlib.Core.Logic.{inl, inr, ◌≢◌}
use mathlib.Core.Bool.{Bool, true, false}
use Prim.Native.Nat.{ℕ, zero, suc, ◌+◌, ◌*◌, ◌≤◌, ◌<◌, zero-le}
use native.Mathlib.Nat.{add-zero, add-suc, zero-add, suc-add, add-mul, mul-suc, suc-mul}
use native.Mathlib.Omega.{arith}
use lib.Dec.{ltb, eqb}
use Rattle.assignment.specs.Sum.{gate, sum, count}
use Rattle.assignment.proofs.Tests.{gate_le, gate_lt, gate_ge, gate_eq, gate_ne, lt?, eq?}

pub sum_ext : (n : ℕ) (f g : ℕ → ℕ) → ((i : ℕ) → i < n → f i ≡ g i) → sum n f ≡ sum n g
unfolding sum
sum_ext zero f g h = refl
sum_ext (suc n) f g h = ap₂ ◌+◌ (sum_ext n f g (λ i l. h i (omega arith))) (h n (omega arith))

pub sum_le : (n : ℕ) (f g : ℕ → ℕ) → ((i : ℕ) → i < n → f i ≤ g i) → sum n f ≤ sum n g
unfolding sum
sum_le zero f g h = zero-le
sum_le (suc n) f g h = omega (arith, sum_le n f g (λ i l. h i (omega arith)), h n (omega arith))

pub sum_member : (n i : ℕ) (f : ℕ → ℕ) → i < n → f i ≤ sum n f
unfolding sum
sum_member zero i f l = omega arith
sum_member (suc n) i f l = elim (eq? i n) [ inl e ↦ rw e (omega arith) | inr d ↦ omega (arith, sum_member n i f (omega arith)) ]

pub sum_ones : (n : ℕ) (f : ℕ → ℕ) → ((i : ℕ) → f i ≡ 1) → sum n f ≡ n
unfolding sum
sum_ones zero f h = refl
sum_ones (suc n) f h = omega (arith, sum_ones n f h, h n)

pub sum_grow : (n d : ℕ) (f : ℕ → ℕ) → sum n f ≤ sum (d + n) f
unfolding sum
sum_grow n zero f = omega (arith, ap (λ k. sum k f) (zero-add n))
sum_grow n (suc d) f = rw suc-add (omega (arith, sum_grow n d f))

pub sum_add : (n : ℕ) (f g : ℕ → ℕ) → sum n (λ i. f i + g i) ≡ sum n f + sum n g
unfolding sum
sum_add zero f g = refl
sum_add (suc n) f g = omega (arith, sum_add n f g)

pub sum_zero : (n : ℕ) (f : ℕ → ℕ) → ((i : ℕ) → i < n → f i ≡ 0) → sum n f ≡ 0
unfolding sum
sum_zero zero f h = refl
sum_zero (suc n) f h = omega (arith, sum_zero n f (λ i l. h i (omega arith)), h n (omega arith))

-- the first a terms, and n more
pub sum_split : (a n : ℕ) (g : ℕ → ℕ) → sum (a + n) g ≡ sum a g + sum n (λ i. g (a + i))
unfolding sum
sum_split a zero g = rw add-zero (sym (add-zero (sum a g)))
sum_split a (suc n) g = rw add-suc (omega (arith, sum_split a n g))

-- n equal terms
pub sum_same : (n x : ℕ) → sum n (λ i. x) ≡ x * n
unfolding sum
sum_same zero x = omega arith
sum_same (suc n) x = omega (arith, sum_same n x, mul-suc x n)

-- every term m times
pub sum_times : (n m : ℕ) (f : ℕ → ℕ) → sum n (λ i. f i * m) ≡ sum n f * m
unfolding sum
sum_times zero m f = omega arith
sum_times (suc n) m f = omega (arith, sum_times n m f, add-mul (sum n f) (f n) m)

-- a sum of sums, the other way round
pub sum_swap : (n m : ℕ) (g : ℕ → ℕ → ℕ) → sum n (λ i. sum m (g i)) ≡ sum m (λ j. sum n (λ i. g i j))
unfolding sum
sum_swap zero m g = sym (sum_zero m (λ j. 0) (λ j l. refl))
sum_swap (suc n) m g = omega (arith, sum_swap n m g, sum_add m (λ j. sum n (λ i. g i j)) (g n))

-- n terms of at most b
pub sum_most : (n b : ℕ) (f : ℕ → ℕ) → ((i : ℕ) → i < n → f i ≤ b) → sum n f ≤ n * b
unfolding sum
sum_most zero b f h = omega arith
sum_most (suc n) b f h = omega (arith, suc-mul n b, sum_most n b f (λ i l. h i (omega arith)), h n (omega arith))

-- one term changed
pub sum_set : (n i : ℕ) (f g : ℕ → ℕ) → i < n → ((j : ℕ) → j < n → j ≢ i → g j ≡ f j) → sum n g + f i ≡ sum n f + g i
unfolding sum
sum_set zero i f g l h = omega arith
sum_set (suc n) i f g l h = elim (eq? i n) [
  | inl e ↦ rw e (omega (arith, sum_ext n g f (λ j m. h j (omega arith) (omega arith))))
  | inr d ↦ omega (arith, sum_set n i f g (omega arith) (λ j m. h j (omega arith)), h n (omega arith) (omega arith))
]

-- of the terms g k, the one at a alone
pub sum_pick : (m a : ℕ) (g : ℕ → ℕ) → sum m (λ k. gate (eqb a k) (g k)) ≡ gate (ltb a m) (g a)
unfolding sum
sum_pick zero a g = sym (gate_ge a 0 (g a) zero-le)
sum_pick (suc m) a g = elim (lt? a m) [
  | inl l ↦ omega (arith, sum_pick m a g, gate_lt a m (g a) l, gate_ne a m (g m) (omega arith), gate_lt a (suc m) (g a) (omega arith))
  | inr h ↦ elim (eq? a m) [
    | inl e ↦ omega (arith, sum_pick m a g, gate_ge a m (g a) h, gate_eq a m (g m) e, gate_lt a (suc m) (g a) (omega arith), ap g e)
    | inr d ↦ omega (arith, sum_pick m a g, gate_ge a m (g a) h, gate_ne a m (g m) d, gate_ge a (suc m) (g a) (omega arith))
  ]
]

pub gate_one : (b : Bool) (w c : ℕ) → w * (c + gate b 1) ≡ w * c + gate b w
gate_one true w c = omega arith
gate_one false w c = omega arith

-- the sum of g over the landings below m, flight by flight and period by period
pub exchange : (n m : ℕ) (x g : ℕ → ℕ) → sum n (λ i. gate (ltb (x i) m) (g (x i))) ≡ sum m (λ k. g k * count n x k)
unfolding sum count
exchange zero m x g = sym (sum_zero m (λ k. g k * 0) (λ k l. omega arith))
exchange (suc n) m x g =
    let pick = sum_pick m (x n) g in
    let add = sum_add m (λ k. g k * count n x k) (λ k. gate (eqb (x n) k) (g k)) in
    let ext = sum_ext m (λ k. g k * (count n x k + gate (eqb (x n) k) 1)) (λ k. g k * count n x k + gate (eqb (x n) k) (g k)) (λ k l. gate_one (eqb (x n) k) (g k) (count n x k)) in
    omega (arith, exchange n m x g, pick, add, ext)

pub exchange_all : (n m : ℕ) (x g : ℕ → ℕ) → ((i : ℕ) → i < n → x i < m) → sum n (λ i. g (x i)) ≡ sum m (λ k. g k * count n x k)
exchange_all n m x g h =
    sum_ext n (λ i. g (x i)) (λ i. gate (ltb (x i) m) (g (x i))) (λ i l. sym (gate_lt (x i) m (g (x i)) (h i l))) ∙ exchange n m x g

-- one flight moved
pub count_move : (n i : ℕ) (x y : ℕ → ℕ) → i < n → ((j : ℕ) → j < n → j ≢ i → y j ≡ x j) → (k : ℕ)
    → count n y k + gate (eqb (x i) k) 1 ≡ count n x k + gate (eqb (y i) k) 1
unfolding count
count_move n i x y l h k = sum_set n i (λ j. gate (eqb (x j) k) 1) (λ j. gate (eqb (y j) k) 1) l (λ j m d. ap (λ z. gate (eqb z k) 1) (h j m d))

pub count_ext : (n : ℕ) (x y : ℕ → ℕ) → ((j : ℕ) → j < n → y j ≡ x j) → (k : ℕ) → count n y k ≡ count n x k
unfolding count
count_ext n x y h k = sum_ext n (λ j. gate (eqb (y j) k) 1) (λ j. gate (eqb (x j) k) 1) (λ j l. ap (λ z. gate (eqb z k) 1) (h j l))

pub count_suc : (n : ℕ) (x : ℕ → ℕ) (k : ℕ) → count (suc n) x k ≡ count n x k + gate (eqb (x n) k) 1
unfolding count sum
count_suc n x k = refl

pub count_zero : (x : ℕ → ℕ) (k : ℕ) → count 0 x k ≡ 0
unfolding count sum
count_zero x k = refl

pub count_le : (n : ℕ) (x : ℕ → ℕ) (k : ℕ) → count n x k ≤ n
unfolding count
count_le n x k = omega (arith, sum_most n 1 (λ i. gate (eqb (x i) k) 1) (λ i l. gate_le (eqb (x i) k) 1 1 (λ _. omega arith)))

pub count_member : (n i k : ℕ) (x : ℕ → ℕ) → i < n → x i ≡ k → 1 ≤ count n x k
unfolding count
count_member n i k x l e = omega (arith, sum_member n i (λ j. gate (eqb (x j) k) 1) l, gate_eq (x i) k 1 e)

pub count_all : (n k : ℕ) (x : ℕ → ℕ) → ((i : ℕ) → x i ≡ k) → count n x k ≡ n
unfolding count
count_all n k x h = sum_ones n (λ i. gate (eqb (x i) k) 1) (λ i. gate_eq (x i) k 1 (h i))
