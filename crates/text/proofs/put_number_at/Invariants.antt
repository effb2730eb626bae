-- The digits written so far and those of the number that is left make up all digits.
use Rattle.text.specs.Loops.{Backwards}
use Rattle.text.proofs.put_number_at.Given as goal

abbrev pub invariant-loop-i : goal.invariant-loop-i
invariant-loop-i l = Backwards l.initial.out l.at l.end l.n l.out l.i l.left
