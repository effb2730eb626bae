-- The code's three numbers fit 64 bits, so their two lines fit the buffer.
-- Assumes nothing.
use mathlib.Core.Path.{sym, ◌∙◌}
use native.Mathlib.Omega.{arith}
use Rattle.program.proofs.Writing.{refusal_front, ok_same}
use Rattle.program.proofs.put_refusal.Goals as goal

pub unwrap-requires : goal.unwrap-requires
unwrap-requires c =
    rw (refusal_front c.args.text.now c.args.refusal c.requires c.from-code.ensures (omega arith) (omega arith) (omega arith) c.write_refusal.ensures.value c.write_refusal.ensures.text_after).0

pub returns : goal.returns
returns c =
    let f = refusal_front c.args.text.now c.args.refusal c.requires c.from-code.ensures (omega arith) (omega arith) (omega arith) c.write_refusal.ensures.value c.write_refusal.ensures.text_after in
    rw (ok_same (sym c.unwrap.ensures ∙ f.0)) f.1
