-- The capacities copied, and the closing number behind them.
-- Assumes nothing.
use native.Mathlib.Omega.{arith}
use Rattle.completion.proofs.Steps.{copy_step, copied_whole, places_made}
use Rattle.completion.proofs.all_places.Goals as goal

pub loop-k-preserved : goal.loop-k-preserved
loop-k-preserved c =
    let a = c.args in
    let l = c.loop-k in
    copy_step a.capacities.now a.left.now l.left l.k (omega arith) (omega arith) l.invariant

pub returns : goal.returns
returns c =
    let a = c.args in
    let l = c.loop-k in
    places_made a.left.now a.closing (copied_whole a.capacities.now a.left.now l.left l.k (omega arith) l.invariant) c.requires.1 c.counted_of.ensures
