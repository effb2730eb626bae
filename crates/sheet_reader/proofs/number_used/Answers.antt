use Rattle.sheet.proofs.Used.{used_here, used_start, used_next}
use mathlib.Core.Path.{sym, ◌∙◌}
use Rattle.sheet_reader.proofs.number_used.Goals as goal

pub loop-j-init : goal.loop-j-init
loop-j-init c = used_start c.args.number c.args.row.now

pub returns-then-number_of-number : goal.returns-then-number_of-number
returns-then-number_of-number c =
    sym (used_here c.args.number c.args.row.now c.loop-j.j c.args.n c.loop-j-test.true (sym c.number_of.ensures.0 ∙ c.if-number_of-number.true))

pub loop-j-preserved : goal.loop-j-preserved
loop-j-preserved c = used_next c.args.number c.args.row.now c.loop-j.j c.loop-j.invariant (λ e. c.if-number_of-number.false (c.number_of.ensures.0 ∙ e))
