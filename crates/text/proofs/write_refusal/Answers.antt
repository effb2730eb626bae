-- The names line and the numbers line, one behind the other.
use Rattle.text.proofs.Writing.{length_refusal, refusal_put, not_fits, it_fits}
use Rattle.text.specs.Fixed.{refusal_names, refusal_text}
use Prim.Native.Nat.{◌≤◌, ◌+◌}
use native.Mathlib.Omega.{arith}
use mathlib.Core.Path.{◌≡◌}
use lib.ListN.{length}
use Rattle.text.proofs.write_refusal.Goals as goal

pub returns-then-text-needed : goal.returns-then-text-needed
returns-then-text-needed c =
    let a = c.args in
    let t = refusal_text a.number a.first a.second in
    let k : c.line_len.result + 21 ≡ length t = omega (arith, length_refusal a.number a.first a.second, c.line_len.ensures.0) in
    let all = not_fits a.text.now t 0 (omega (arith, c.if-text-needed.true)) in
    record { value = rw k all.0; text_after = all.1 }

pub returns : goal.returns
unfolding refusal_names
returns c =
    let a = c.args in
    let t = refusal_text a.number a.first a.second in
    let k : c.line_len.result + 21 ≡ length t = omega (arith, length_refusal a.number a.first a.second, c.line_len.ensures.0) in
    let h : length t ≤ length a.text.now = omega (arith, c.if-text-needed.false) in
    let all = it_fits a.text.now t 0 (omega arith) (refusal_put a.number a.first a.second h c.put_fixed-at.ensures c.put_line_at.ensures) in
    record { value = rw k all.0; text_after = all.1 }
