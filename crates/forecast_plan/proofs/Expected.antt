-- The laws of the expected cost: what it depends on, how the program works it out, and how great it can be.
-- Assumes nothing.
use mathlib.Core.Path.{◌≡◌, ap, sym, ◌∙◌}
use mathlib.Core.List.{List}
use Prim.Native.Nat.{ℕ, zero, suc, ◌+◌, ◌-◌, ◌*◌, ◌≤◌, ◌<◌}
use native.Mathlib.Nat.{mul-le-mul_left}
use native.Mathlib.Omega.{arith}
use Rattle.assignment.specs.Sum.{sum}
use Rattle.assignment.proofs.Sums.{sum_ext, count_ext}
use Rattle.day.specs.Day.{Day, due, rate, hold, land}
use Rattle.forecast_plan.specs.Forecast.{Forecasts, weight, forecast, held, lands, cost_if, expected}
use Rattle.forecast_plan.proofs.Turns.{waiting_same}
use Rattle.forecast_plan.proofs.Landing.{room_same}

-- ---- sums by weight

-- Σ w (a + b x) is a Σ w + b Σ w x
weigh : (n : ℕ) (w x : ℕ → ℕ) (a b : ℕ) → sum n (λ s. w s * (a + b * x s)) ≡ a * sum n w + b * sum n (λ s. w s * x s)
unfolding sum
weigh zero w x a b = omega arith
weigh (suc n) w x a b = omega (arith, weigh n w x a b)

-- Σ w x is at most m Σ w where no x is above m
pub weigh_most : (n : ℕ) (w x : ℕ → ℕ) (m : ℕ) → ((s : ℕ) → s < n → x s ≤ m) → sum n (λ s. w s * x s) ≤ m * sum n w
unfolding sum
weigh_most zero w x m most = omega arith
weigh_most (suc n) w x m most = omega (arith, weigh_most n w x m (λ s l. most s (omega arith)), mul-le-mul_left (w n) (most n (omega arith)))

-- ---- the expected cost

module _ (d : Day) (f : Forecasts) where
  -- it depends on the holds of the flights above alone
  pub expected_same : (holds others : List ℕ) (i h : ℕ) → ((j : ℕ) → j < i → hold holds j ≡ hold others j)
      → expected d f holds i h ≡ expected d f others i h
  unfolding expected
  expected_same holds others i h same =
      sum_ext f.count _ _ (λ s l. ap (λ k. weight f s * cost_if d f.air_factor i h k) (room_same _ _ (forecast d f s) (due d i + h) (λ k from to.
      waiting_same (held d holds i) (held d others i) (forecast d f s) k (λ j some before. sym (count_ext i (land d holds) (land d others) (λ o b. ap (λ z. due d o + z) (sym (same o b))) j)))))

  -- with weights that add up to 1,000, the ground costs 1,000 times what it costs under one forecast
  pub expected_is : sum f.count (weight f) ≡ 1000 → (holds : List ℕ) (i h : ℕ)
      → expected d f holds i h
      ≡ 1000 * rate d i * h
      + f.air_factor * rate d i * sum f.count (λ s. weight f s * (lands (held d holds i) (forecast d f s) (due d i + h) - (due d i + h)))
  unfolding expected
  expected_is all holds i h =
      weigh f.count (weight f) (λ s. lands (held d holds i) (forecast d f s) (due d i + h) - (due d i + h)) (rate d i * h) (f.air_factor * rate d i)
      ∙ rw all (omega arith)
