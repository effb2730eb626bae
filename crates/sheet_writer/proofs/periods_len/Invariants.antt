-- The lengths of the first lines are summed.
use Rattle.sheet.specs.Text.{periods_text}
use Prim.Native.Nat.{◌≤◌, ◌*◌}
use mathlib.Core.Path.{◌≡◌}
use lib.ListN.{length, take}
use Rattle.sheet_writer.proofs.periods_len.Given as goal

abbrev pub invariant-loop-i : goal.invariant-loop-i
invariant-loop-i l = (l.sum ≡ length (periods_text 1 (take l.i l.capacities))) × (l.sum ≤ 42 * l.i)
