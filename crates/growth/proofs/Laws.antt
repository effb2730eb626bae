-- How the factors grow, and how great costs can be.
-- Assumes nothing.
use mathlib.Core.Path.{◌≡◌, refl, sym, ap, ◌∙◌}
use Prim.Native.Nat.{ℕ, zero, suc, ◌+◌, ◌-◌, ◌*◌, ◌^◌, ◌≤◌, ◌<◌}
use native.Mathlib.Omega.{arith}
use native.Mathlib.Numerals.{add-one}
use native.Mathlib.Nat.{zero-add, suc-add, pow-suc, mul_assoc, mul_right_comm, mul-le-mul, mul-le-mul_left, mul-le-mul_right, pow-le-pow_left}
use lib.Dec.{leb→le}
use lib.Pow.{pow-add}
use Rattle.assignment.specs.Sum.{sum}
use Rattle.assignment.proofs.Sums.{sum_grow, sum_le}
use Rattle.growth.specs.Growth.{factor, further_cost, growth_cost}

-- ---- factors

-- a further period costs (10 + a)/10 of the one before it
pub factor_next : (a t : ℕ) → t < 6 → factor a (suc t) * 10 ≡ factor a t * (10 + a)
unfolding factor
factor_next a t l =
    let up : 6 - t ≡ suc (6 - suc t) = omega arith in
    rw (up, pow-suc (10 + a) t, pow-suc 10 (6 - suc t)) (turn ((10 + a) ^ t) (10 + a) (10 ^ (6 - suc t)))
  where
    turn : (x c y : ℕ) → x * c * y * 10 ≡ x * (y * 10) * c
    turn x c y = mul_assoc (x * c) y 10 ∙ mul_right_comm x c (y * 10)

-- without growth all cost the same
pub factor_plain : (t : ℕ) → t ≤ 6 → factor 0 t ≡ 1000000
unfolding factor
factor_plain t l = let all : t + (6 - t) ≡ 6 = omega arith in sym (pow-add 10 t (6 - t)) ∙ ap (λ n. 10 ^ n) all

factor_grows : (a t : ℕ) → a ≤ 40 → factor a t ≤ factor 40 t
unfolding factor
factor_grows a t l = mul-le-mul_right (10 ^ (6 - t)) (pow-le-pow_left (omega arith) t)

factor_rises : (a g t : ℕ) → g + t < 6 → factor a t ≤ factor a (g + t)
factor_rises a zero t l = rw zero-add (omega arith)
factor_rises a (suc g) t l =
    rw suc-add (omega (
      arith,
      factor_rises a g t (omega arith),
      factor_next a (g + t) (omega arith),
      mul-le-mul_left {m = 10} {n = 10 + a} (factor a (g + t)) (omega arith),
    ))

last_factor : factor 40 5 ≡ 3125000000
unfolding factor
last_factor = refl

pub factor_low : (a t : ℕ) → a ≤ 40 → t < 6 → factor a t ≤ 3125000000
factor_low a t g l =
    let all : 5 - t + t ≡ 5 = omega arith in
    omega (arith, factor_grows a t g, (rw all at (factor_rises 40 (5 - t) t (omega arith))), last_factor)

-- ---- costs

pub further_low : (a rate t : ℕ) → a ≤ 40 → rate < 2 ^ 32 → t < 6 → rate * factor a t ≤ 4294967295 * 3125000000
further_low a rate t g r l = mul-le-mul {n₁ = rate} {m₁ = factor a t} {n₂ = 4294967295} {m₂ = 3125000000} (omega arith) (factor_low a t g l)

pub growth_start : (a rate : ℕ) → 0 ≡ growth_cost a rate 0
unfolding growth_cost sum
growth_start a rate = refl

pub growth_next : (a rate t : ℕ) {s f : ℕ} → s ≡ growth_cost a rate t → f ≡ further_cost a rate t → s + f ≡ growth_cost a rate (t + 1)
unfolding growth_cost sum
growth_next a rate t e q = rw (e, q, add-one)

-- the dearest hold: six periods at the highest rate and growth
most_cost : growth_cost 40 10000 6 ≤ 39060000000000
unfolding growth_cost further_cost factor sum
most_cost = leb→le _ _ tt

pub growth_low : (a rate h : ℕ) → a ≤ 40 → rate ≤ 10000 → h ≤ 6 → growth_cost a rate h ≤ 39060000000000
unfolding growth_cost further_cost
growth_low a rate h g r l = omega (arith, longer, dearer, most_cost)
  where
    longer : growth_cost a rate h ≤ growth_cost a rate 6
    longer = let all : 6 - h + h ≡ 6 = omega arith in rw all at (sum_grow h (6 - h) (further_cost a rate))

    dearer : growth_cost a rate 6 ≤ growth_cost 40 10000 6
    dearer = sum_le 6 (further_cost a rate) (further_cost 40 10000) (λ t _. mul-le-mul r (factor_grows a t g))
