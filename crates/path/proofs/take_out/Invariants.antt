-- The places from `at` up to z have what stood behind them. Assumes nothing.
use mathlib.Core.Path.{◌≡◌}
use Prim.Native.Nat.{ℕ, ◌+◌, ◌≤◌, ◌<◌}
use Rattle.assignment.specs.Rows.{el}
use Rattle.path.proofs.take_out.Given as goal

abbrev pub invariant-loop-z : goal.invariant-loop-z
invariant-loop-z l = record {
  before : (y : ℕ) → y < l.at → el l.list y ≡ el l.initial.list y;
  done : (y : ℕ) → l.at ≤ y → y < l.z → el l.list y ≡ el l.initial.list (y + 1);
  rest : (y : ℕ) → l.z ≤ y → el l.list y ≡ el l.initial.list y;
}
