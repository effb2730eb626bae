-- The call's answer in numbers, and its buffer.
-- Assumes nothing.
use mathlib.Core.Path.{ap, ◌∙◌}
use Rattle.answers.specs.Answers.{code_of}
use Rattle.desk.proofs.hold_desk_plan_text.Goals as goal

pub returns : goal.returns
returns c = record { value = c.code_of.ensures ∙ ap code_of c.write_plan.ensures.value; text_after = c.write_plan.ensures.text_after }
