-- The front is overwritten.
use Rattle.text.proofs.Writing.{placed_zero}
use native.Mathlib.Omega.{arith}
use mathlib.Core.Path.{refl}
use Rattle.text.proofs.put_fixed.Goals as goal

pub returns : goal.returns
returns c = record { place = omega arith; bytes = rw (placed_zero, c.copy_from_slice.ensures.after) refl }
