-- What the walk for jumps and limits shows of the flights of a day.
-- Assumes nothing.
use mathlib.Core.Path.{◌≡◌, refl}
use mathlib.Core.Bool.{Bool, true, false, not, ◌||◌}
use Prim.Native.Nat.{ℕ, ◌+◌, ◌<◌}
use native.Mathlib.Omega.{arith}
use lib.Dec.{ltb, eqb}
use borrow.Author.Tests.{eqb-true, ltb-false, not-false}
use Rattle.day.specs.Day.{Day, P, N, flight_at, jump, limit, latest, last_of, last}
use Rattle.day.specs.Plan.{jump_or_limit, first_jump_or_limit}
use Rattle.day.proofs.Costs.{latest_missing}
use Rattle.day.proofs.Tests.{none_passes}

-- neither of two tests passes
neither : (a b : Bool) → (a || b) ≡ false → (a ≡ false) × (b ≡ false)
neither false b e = (refl, e)
neither true b e = (e, after b e)
  where
    after : (b : Bool) → true ≡ false → b ≡ false
    after true e = e
    after false e = refl

module _ (d : Day) (applies : first_jump_or_limit d.flights ≡ N d) (i : ℕ) (l : i < N d) where
  plain : (ltb 0 (jump d i) ≡ false) × (not (eqb (limit d i) 255) ≡ false)
  unfolding first_jump_or_limit jump_or_limit flight_at
  plain = neither (ltb 0 (jump d i)) (not (eqb (limit d i) 255)) (none_passes (N d) (λ k. jump_or_limit (flight_at d.flights k)) applies i l)

  pub no_jump : jump d i ≡ 0
  no_jump = omega (arith, ltb-false 0 (jump d i) plain.0)

  pub no_limit_lem : limit d i ≡ 255
  no_limit_lem = eqb-true (limit d i) 255 (not-false (eqb (limit d i) 255) plain.1)

  -- so it may land in the closing period
  pub latest_closing : latest d i ≡ P d + 1
  latest_closing = latest_missing d i no_limit_lem

  pub last_closing : last d i ≡ P d + 1
  unfolding last_of
  last_closing = omega (arith, latest_closing)
