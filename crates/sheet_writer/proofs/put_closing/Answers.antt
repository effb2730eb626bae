-- The name and the number behind it; or nothing.
use Rattle.sheet.specs.Text.{closing_name}
use Rattle.sheet_writer.proofs.Placing.{closing_length, closing_put, closing_none}
use native.Mathlib.Omega.{arith}
use mathlib.Core.Path.{sym}
use Rattle.sheet_writer.proofs.put_closing.Goals as goal

pub put_fixed-number-requires : goal.put_fixed-number-requires
put_fixed-number-requires c = omega (arith, closing_length c.args.closing (sym c.if-has_line.ensures), c.requires)

pub put_number_at-requires : goal.put_number_at-requires
put_number_at-requires c =
    omega (arith, closing_length c.args.closing (sym c.if-has_line.ensures), c.requires, c.put_fixed-number.ensures.place, c.put_fixed-number.auto)

pub returns-then-has_line : goal.returns-then-has_line
unfolding closing_name
returns-then-has_line c = closing_put _ (sym c.if-has_line.ensures) (omega (arith, c.requires)) c.put_fixed-number.ensures c.put_number_at.ensures

pub returns : goal.returns
returns c = closing_none _ _ _ (sym c.if-has_line.ensures) (omega (arith, c.requires))
