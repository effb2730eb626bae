-- The digits and the end byte; a 64-bit number has at most 20 digits.
use Rattle.text.proofs.Digits.{length_ended, ended_le}
use native.Mathlib.Omega.{arith}
use Rattle.text.proofs.number_len.Goals as goal

pub overflow_add-result : goal.overflow_add-result
overflow_add-result c = omega (arith, length_ended 44 c.args.n, ended_le 44 c.args.n (omega arith), c.digit_count.ensures)

pub returns : goal.returns
returns c =
    let n = c.args.n in
    let w = c.digit_count.ensures in
    let l = ended_le 44 n (omega arith) in
    (omega (arith, length_ended 44 n), omega (arith, length_ended 10 n), omega (arith, length_ended 44 n))
