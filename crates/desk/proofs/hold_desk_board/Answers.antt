-- The call's answer in numbers, and its row.
-- Assumes nothing.
use mathlib.Core.Path.{ap, ◌∙◌}
use Rattle.desk.specs.Desk.{done_code}
use Rattle.desk.proofs.hold_desk_board.Goals as goal

pub returns-in-Ok : goal.returns-in-Ok
returns-in-Ok c = record { value = c.accepted.ensures ∙ ap done_code c.in-Ok.ensures.value; board_after = c.in-Ok.ensures.board_after }

pub returns-in-Err : goal.returns-in-Err
returns-in-Err c = record { value = c.from.ensures ∙ ap done_code c.in-Err.ensures.value; board_after = c.in-Err.ensures.board_after }
