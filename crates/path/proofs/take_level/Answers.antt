use mathlib.Core.Path.{refl}
use Rattle.path.proofs.Listing.{levelling_go, levelling_stay, levelling_end}
use Rattle.path.proofs.take_level.Goals as goal
use Rattle.path.proofs.take_level.Goals.{then-dist-k, else-dist-k}

pub loop-z-preserved : goal.loop-z-preserved
loop-z-preserved c = elim c.if-dist-k.branch [
  | then-dist-k w ↦ rw (w.list-is, w.queue-is, w.kept-is, w.end-is) (levelling_go c.loop-z.invariant c.loop-z-test.true refl w.if-dist-k.true)
  | else-dist-k w ↦ rw (w.list-is, w.queue-is, w.kept-is, w.end-is) (levelling_stay c.loop-z.invariant c.loop-z-test.true refl w.if-dist-k.false)
]

pub returns : goal.returns
returns c = let r = levelling_end c.loop-z.invariant c.loop-z-test.false in (r.0, rw c.loop-z.invariant.level_is at r.1)
