-- The first numbers are written.
use Rattle.text.specs.Loops.{Grown}
use Rattle.text.specs.Digits.{separated}
use lib.ListN.{take}
use Rattle.text.proofs.put_separated_at.Given as goal

abbrev pub invariant-loop-n : goal.invariant-loop-n
invariant-loop-n l = Grown l.initial.out l.at (separated (take l.n-index l.numbers)) l.out l.next
