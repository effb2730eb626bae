use mathlib.Core.Path.{◌≡◌, sym, ◌∙◌}
use native.Mathlib.Omega.{arith}
use Prim.Native.Nat.{◌+◌}
use lib.ListN.{length}
use Rattle.forecast_plan.proofs.Landing.{room_here, room_further, room_closing}
use Rattle.forecast_plan.proofs.first_room.Goals as goal

pub returns-then-has_room : goal.returns-then-has_room
returns-then-has_room c =
    room_here _ _ (omega arith) c.has_room.ensures c.if-has_room.true ∙ c.loop-k.invariant

pub loop-k-preserved : goal.loop-k-preserved
loop-k-preserved c =
    room_further _ _ (omega arith) c.has_room.ensures c.if-has_room.false ∙ c.loop-k.invariant

pub returns : goal.returns
returns c =
    let e : c.loop-k.k ≡ length c.args.forecast.now + 1 = omega arith in
    sym (room_closing _ _ _ (omega arith)) ∙ rw e at c.loop-k.invariant
