-- The last number stands behind the others.
use Rattle.text.proofs.Writing.{line_put, length_line}
use native.Mathlib.Omega.{arith}
use Rattle.text.proofs.put_line.Goals as goal

pub put_separated_at-next-requires : goal.put_separated_at-next-requires
put_separated_at-next-requires c = omega (arith, length_line c.args.numbers.now c.args.last, c.requires)

pub put_number_at-requires : goal.put_number_at-requires
put_number_at-requires c = omega (arith, length_line c.args.numbers.now c.args.last, c.requires, c.put_separated_at-next.ensures.place, c.put_separated_at-next.auto)

pub returns : goal.returns
returns c = line_put _ _ (omega (arith, c.requires)) c.put_separated_at-next.ensures c.put_number_at.ensures
