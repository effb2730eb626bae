-- A flight lands in the period if there is room, else where one held to the next would.
-- Assumes nothing.
use mathlib.Core.Path.{◌∙◌}
use Rattle.forecast_plan.proofs.Landing.{room_here, room_further}
use Rattle.forecast_plan.proofs.lands_at.Goals as goal

pub returns-then-has_room : goal.returns-then-has_room
returns-then-has_room c = room_here _ _ c.requires.1 c.has_room.ensures c.if-has_room.true

pub returns : goal.returns
returns c =
    let pre = c.requires in
    pre.3 ∙ room_further _ _ pre.1 c.has_room.ensures c.if-has_room.false
