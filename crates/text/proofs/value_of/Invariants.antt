-- The value so far, continued over the digits still ahead, is the value of all.
use Prim.Native.Nat.{◌<◌, ◌^◌}
use mathlib.Core.Path.{◌≡◌}
use lib.ListN.{drop}
use Rattle.text.specs.Reading.{value}
use Rattle.text.proofs.value_of.Given as goal

abbrev pub invariant-loop-d : goal.invariant-loop-d
invariant-loop-d l = (l.n < 10 ^ l.d-index) × (value l.n (drop l.d-index l.digits) ≡ value 0 l.digits)
