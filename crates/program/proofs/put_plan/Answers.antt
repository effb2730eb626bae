-- A legal plan's text is written, and it fits the buffer.
-- Assumes nothing.
use mathlib.Core.Path.{sym, ◌∙◌}
use Rattle.day.specs.Checked.{lent_day}
use Rattle.program.proofs.Writing.{plan_front, ok_same}
use Rattle.program.proofs.put_plan.Goals as goal

pub unwrap-requires : goal.unwrap-requires
unwrap-requires c =
    let a = c.args in
    rw (plan_front a.text.now (lent_day a.day) a.holds.now c.requires.0 c.requires.1 c.requires.2 c.write_plan.ensures.value c.write_plan.ensures.text_after).0

pub returns : goal.returns
returns c =
    let a = c.args in
    let f = plan_front a.text.now (lent_day a.day) a.holds.now c.requires.0 c.requires.1 c.requires.2 c.write_plan.ensures.value c.write_plan.ensures.text_after in
    rw (ok_same (sym c.unwrap.ensures ∙ f.0)) f.1
