-- After the first numbers are read they stand in the row, and the whole is those and what is left to read.
use Rattle.text.specs.Loops.{Walk}
use Rattle.text.proofs.separated_at.Given as goal

abbrev pub invariant-loop-number : goal.invariant-loop-number
invariant-loop-number l = Walk l.s l.at l.most l.initial.numbers l.numbers l.number-index l.next
