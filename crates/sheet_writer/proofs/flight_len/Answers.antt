-- The line's length is that of its three parts.
use Rattle.sheet.proofs.Grammar.{flight_length}
use native.Mathlib.Omega.{arith}
use Rattle.sheet_writer.proofs.flight_len.Goals as goal

pub returns : goal.returns
returns c =
    let n = rw c.values_of-values.ensures at c.separated_len.ensures in
    let t = c.number_len.ensures in
    (omega (arith, flight_length c.args.f, n.0, c.limit_len.ensures.0, t.1), omega (arith, n.1, c.limit_len.ensures.1, t.2))
