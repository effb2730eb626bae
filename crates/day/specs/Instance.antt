-- A day as an assignment problem in which the closing period is one more period, of the closing number's capacity: no day can fill 256. Only
-- inner contracts cite it.
-- Assumes nothing.
use Rattle.std.specs.Prelude.{ℕ, ◌+◌, ◌-◌, ◌≤◌}
use Rattle.std.proofs.Common.{arith}
use Rattle.assignment.specs.Assignment as A
use Rattle.day.specs.Day.{Day, P, N, due, takes, cost, last_of, last}

pub last_to : (d : Day) (i : ℕ) → last d i ≤ P d + 1
unfolding last_of
last_to d i = omega arith

abbrev pub instance : Day → A.Instance
instance d = record {
  n = N d;
  m = P d + 2;
  lo = due d;
  hi = last d;
  cost = λ i k. cost d i (k - due d i);
  cap = takes d;
  within = λ i. omega (arith, last_to d i);
}
