-- Flights taken in another order: a row of places in which every place stands once.
-- Assumes nothing.
use Rattle.std.specs.Prelude.{◌≡◌, ◌≢◌, ℕ, ◌<◌}
use Rattle.assignment.specs.Sum.{count}

-- every place below n stands once in π 0 .. π (n - 1), and nothing else does
pub record Permuted (n : ℕ) (π : ℕ → ℕ) : Type 0 where
  pub below : (s : ℕ) → s < n → π s < n
  pub once : (i : ℕ) → i < n → count n π i ≡ 1

-- π₂ is π with what stands at a and b exchanged
pub record Swapped (π π₂ : ℕ → ℕ) (a b : ℕ) : Type 0 where
  pub here : π₂ a ≡ π b
  pub there : π₂ b ≡ π a
  pub others : (s : ℕ) → s ≢ a → s ≢ b → π₂ s ≡ π s
