use Rattle.path.proofs.Scan.{listed, scan_in, scan_farther, scan_nearer, scan_level}
use Rattle.path.proofs.nearest.Goals as goal
use Rattle.path.proofs.nearest.Goals.{then-away-best+else-away-level, else-away-best}

pub bounds-dist-k : goal.bounds-dist-k
bounds-dist-k c = let p = listed c.requires c.loop-z-test.true in rw p.0 (scan_in c.loop-z.invariant p.1).1

pub returns-then-away-level : goal.returns-then-away-level
returns-then-away-level c =
    let p = listed c.requires c.loop-z-test.true in scan_level c.loop-z.invariant p.1 (rw p.0 at c.if-away-best.true) (rw p.0 at c.if-away-level.true)

pub loop-z-preserved : goal.loop-z-preserved
loop-z-preserved c =
    let p = listed c.requires c.loop-z-test.true in
    elim c.if-away-best.branch [
      | then-away-best+else-away-level w ↦ rw (w.best-is, w.at-is, p.0) (scan_nearer c.loop-z.invariant p.1 (rw p.0 at w.if-away-best.true))
      | else-away-best w ↦ rw (w.best-is, w.at-is) (scan_farther c.loop-z.invariant p.1 (rw p.0 at w.if-away-best.false))
    ]
