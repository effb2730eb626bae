use borrow.Author.Rules.{rules}
use native.Mathlib.Omega.{arith}
use Rattle.day.proofs.Chains.{pass_not, pass_next, pass_end}
use Rattle.day.proofs.numbers_differ_in.Goals as goal

pub is_new-requires : goal.is_new-requires
is_new-requires c = (search rules, c.loop-i.invariant.linked)

pub returns-then-not-is_new : goal.returns-then-not-is_new
returns-then-not-is_new c = pass_not c.loop-i.invariant c.loop-i-test.true c.is_new.ensures c.if-not-is_new.true

pub loop-i-preserved : goal.loop-i-preserved
loop-i-preserved c =
    pass_next c.loop-i.invariant c.loop-i-test.true c.chain_of-chain.ensures.0 c.chain_of-chain.ensures.1 c.is_new.ensures c.if-not-is_new.false

pub returns : goal.returns
returns c = pass_end c.loop-i.invariant (omega arith)
