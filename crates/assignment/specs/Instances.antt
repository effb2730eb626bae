-- Instances made from others: with a flight more, with the flights in another order, with shorter windows, with closed periods shut, with
-- one more place in a period.
-- Assumes nothing.
use Rattle.std.specs.Prelude.{cond, ℕ, suc, ◌+◌, ◌≤◌, min, leb, eqb}
use Rattle.std.proofs.Common.{arith}
use Rattle.assignment.specs.Sum.{gate}
use Rattle.assignment.specs.Assignment.{Instance}

-- the day with the flight after the last
abbrev pub grown : Instance → Instance
grown d = record { n = suc d.n; m = d.m; lo = d.lo; hi = d.hi; cost = d.cost; cap = d.cap; within = d.within }

-- the first n flights of the order π
abbrev pub ordered : Instance → (ℕ → ℕ) → ℕ → Instance
ordered d π n = record {
  n = n;
  m = d.m;
  lo = λ s. d.lo (π s);
  hi = λ s. d.hi (π s);
  cost = λ s k. d.cost (π s) k;
  cap = d.cap;
  within = λ s. d.within (π s);
}

-- the last period of a window lo .. hi, but no later than f where f is not before the window
unfoldable pub until : ℕ → ℕ → ℕ → ℕ
until f lo hi = min hi (cond (leb lo f) f hi)

pub until_le : (f lo hi : ℕ) → until f lo hi ≤ hi
unfolding until
until_le f lo hi = omega arith

-- no window reaches beyond f, but those that begin there
abbrev pub restricted : Instance → ℕ → Instance
restricted d f = record {
  n = d.n;
  m = d.m;
  lo = d.lo;
  hi = λ i. until f (d.lo i) (d.hi i);
  cost = d.cost;
  cap = d.cap;
  within = λ i. omega (arith, d.within i, until_le f (d.lo i) (d.hi i));
}

-- a landing in a closed period costs so much more
abbrev pub opened : Instance → ℕ → Instance
opened d more = record {
  n = d.n;
  m = d.m;
  lo = d.lo;
  hi = d.hi;
  cost = λ i k. d.cost i k + gate (eqb (d.cap k) 0) more;
  cap = d.cap;
  within = d.within;
}

-- the capacity of period k alone is one more
abbrev pub more : Instance → ℕ → Instance
more d k = record {
  n = d.n;
  m = d.m;
  lo = d.lo;
  hi = d.hi;
  cost = d.cost;
  cap = λ j. d.cap j + gate (eqb k j) 1;
  within = d.within;
}
