-- The line's length is that of its two parts.
use Rattle.text.proofs.Writing.{length_line}
use native.Mathlib.Omega.{arith}
use Rattle.text.proofs.line_len.Goals as goal

pub returns : goal.returns
returns c =
    let a = c.args in
    (omega (arith, length_line a.numbers.now a.last, c.separated_len.ensures.0, c.number_len.ensures), omega (arith, c.separated_len.ensures.1, c.number_len.ensures))
