-- The text's length is that of its parts.
-- Assumes nothing.
use native.Mathlib.Omega.{arith}
use Rattle.plan_text.proofs.Placing.{length_plan}
use Rattle.plan_text.proofs.plan_len.Goals as goal

pub returns : goal.returns
returns c = omega (arith, length_plan _ _ c.requires.0 c.requires.1, c.plan_lines_len.ensures.0, c.number_len.ensures.1)
