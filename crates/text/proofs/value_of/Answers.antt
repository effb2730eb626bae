use native.Mathlib.Omega.{arith}
use mathlib.Core.Path.{sym, ◌∙◌}
use Rattle.text.proofs.Reading.{below, turn, done}
use Rattle.text.proofs.value_of.Goals as goal

pub overflow_mul-n : goal.overflow_mul-n
overflow_mul-n c = let l = c.loop-d in omega (arith, below c.args.digits.now l.d-index l.n (omega arith) c.requires.few l.invariant.0)

pub overflow_add-n : goal.overflow_add-n
overflow_add-n c =
    let l = c.loop-d in
    omega (arith, below c.args.digits.now l.d-index l.n (omega arith) c.requires.few l.invariant.0, c.requires.digits l.d-index (omega arith))

pub loop-d-preserved : goal.loop-d-preserved
loop-d-preserved c = let l = c.loop-d in rw c.from.ensures (turn c.args.digits.now l.d-index l.n (omega arith) c.requires.few l.invariant.0 (c.requires.digits l.d-index (omega arith)) _ l.invariant.1)

pub returns : goal.returns
returns c = let l = c.loop-d in sym (done l.n l.d-index c.args.digits.now (omega arith)) ∙ l.invariant.1
