use native.Mathlib.Omega.{arith}
use mathlib.Core.Path.{refl}
use Rattle.day.proofs.Chains.{walk_start, walk_not, walk_less, walk_next, walk_end}
use Rattle.day.proofs.is_new.Goals as goal

pub loop-entry-init : goal.loop-entry-init
loop-entry-init c =
    walk_start c.requires.0 c.requires.1 c.number_of-number.ensures.0 c.chain_of-chain.ensures.0 refl

pub returns-then-number_of-number : goal.returns-then-number_of-number
returns-then-number_of-number c = walk_not c.loop-entry.invariant c.loop-entry-test.true c.number_of.ensures.0 c.if-number_of-number.true

pub loop-entry-smaller : goal.loop-entry-smaller
loop-entry-smaller c = walk_less c.loop-entry.invariant c.loop-entry-test.true refl

pub loop-entry-preserved : goal.loop-entry-preserved
loop-entry-preserved c = walk_next c.loop-entry.invariant c.loop-entry-test.true refl c.number_of.ensures.0 c.if-number_of-number.false

pub returns : goal.returns
returns c = walk_end c.loop-entry.invariant (omega arith)
