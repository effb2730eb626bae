-- The name and a number; or nothing.
use Rattle.sheet_writer.proofs.Placing.{closing_length, no_closing}
use lib.Dec.{lit≤}
use lib.ListN.{length}
use mathlib.Core.Path.{ap, sym}
use native.Mathlib.Omega.{arith}
use Rattle.sheet_writer.proofs.closing_len.Goals as goal

pub returns-then-has_line : goal.returns-then-has_line
returns-then-has_line c =
    let l = closing_length c.args.closing (sym c.if-has_line.ensures) in
    (omega (arith, c.number_len.ensures.1, l), omega (arith, c.number_len.ensures.2))

pub returns : goal.returns
returns c = (sym (ap length (no_closing c.args.closing (sym c.if-has_line.ensures))), lit≤ tt)
