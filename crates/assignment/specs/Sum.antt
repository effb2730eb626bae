-- Sums and counts over the indices 0 .. n - 1.
-- Assumes nothing.
use Rattle.std.specs.Prelude.{Bool, true, false, ℕ, zero, suc, ◌+◌, eqb}

-- x where the test passes, else 0
abbrev pub gate : Bool → ℕ → ℕ
gate true x = x
gate false x = 0

-- f 0 + f 1 + .. + f (n - 1)
unfoldable pub sum : ℕ → (ℕ → ℕ) → ℕ
sum zero f = 0
sum (suc n) f = sum n f + f n

-- how many of x 0 .. x (n - 1) are k
unfoldable pub count : ℕ → (ℕ → ℕ) → ℕ → ℕ
unfolding sum
count n x k = sum n (λ i. gate (eqb (x i) k) 1)
