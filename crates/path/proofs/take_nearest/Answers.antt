-- The nearest goes to the queue, alone or with all that are as near, unless it is the target. Assumes nothing.
use native.Mathlib.Omega.{arith}
use mathlib.Core.Path.{refl}
use Rattle.path.proofs.Listing.{removed_level, level_some}
use Rattle.path.proofs.take_nearest.Goals as goal

pub returns : goal.returns
returns c =
    level_some c.requires.can_near c.nearest-at.ensures c.if-left-at.false (omega (arith, c.if-left-at.false), removed_level c.args.queue.now c.requires.can_near.shape c.if-left-at.false refl (omega (arith, c.requires.queue_len)) c.take_out.ensures c.args.dist.now)
