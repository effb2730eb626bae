-- The digits counted so far and those of what is left are one more than the digits of n.
use Rattle.text.specs.Digits.{digits}
use Prim.Native.Nat.{◌≤◌, ◌+◌}
use mathlib.Core.Path.{◌≡◌}
use lib.ListN.{length}
use Rattle.text.proofs.digit_count.Given as goal

abbrev pub invariant-loop-m : goal.invariant-loop-m
invariant-loop-m l = (length (digits l.n) + 1 ≡ l.count + length (digits l.m)) × (l.count + l.m ≤ l.n + 1)

abbrev pub decreases-loop-m : goal.decreases-loop-m
decreases-loop-m l = l.m
