-- One bit, shifted by less than the word, is not cut.
-- Assumes nothing.
use lib.Pow.{shl_exact}
use lib.Dec.{lit<}
use native.Mathlib.Nat.{one-mul}
use native.Mathlib.Omega.{arith}
use Rattle.period_card.proofs.mark.Goals as goal

pub returns : goal.returns
returns c = rw (shl_exact {a = 1} 1 c.args.i 64 (lit< tt) (omega arith), one-mul)
