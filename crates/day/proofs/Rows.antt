-- What a valid day's rows hold, for its accessors.
-- Assumes nothing.
use Rattle.std.proofs.Common.{◌≡◌, true, ◌+◌, ◌*◌, ◌≤◌, ◌<◌, length, arith, ℕ}
use Rattle.day.specs.Day.{Day, N, width, valid}
use Rattle.day.proofs.Valid.{valid_means}

-- the numbers of each of its flights stand in the row
pub row_holds : (d : Day) → valid d ≡ true → {i : ℕ} → i < N d → (i + 1) * width ≤ length d.flights
row_holds d good l = omega (arith, (valid_means good).whole)
