-- Weak duality: accepted prices show that a plan is cheapest; with one place more in a period, a plan saves its price at the most.
-- Assumes nothing.
use mathlib.Core.Path.{◌≡◌, refl, ap}
use mathlib.Core.Logic.{inl, inr}
use Prim.Native.Nat.{ℕ, ◌+◌, ◌*◌, ◌≤◌, ◌<◌}
use native.Mathlib.Nat.{mul-le-mul_left}
use native.Mathlib.Omega.{arith}
use lib.Dec.{ltb, eqb}
use Rattle.assignment.specs.Sum.{gate, count}
use Rattle.assignment.specs.Assignment.{Instance, In, Plan, Legal, total, Cheapest, Accepted}
use Rattle.assignment.specs.Instances.{more}
use Rattle.assignment.proofs.Tests.{lt?, gate_ge}
use Rattle.assignment.proofs.Sums.{sum_le, sum_add, sum_pick, exchange_all, gate_one}

-- a plan is legal where windows and capacities are no smaller
pub legal_in : (a b : Instance) {x : Plan} → a.n ≡ b.n → ((i : ℕ) → b.lo i ≤ a.lo i) → ((i : ℕ) → a.hi i ≤ b.hi i)
    → ((k : ℕ) → a.cap k ≤ b.cap k) → Legal a x → Legal b x
legal_in a b {x} same lo hi cap legal = record {
  window = λ i l. let w = legal.window i (omega arith) in record { from = omega (arith, lo i, w.from); to = omega (arith, hi i, w.to) };
  room = λ k. omega (arith, legal.room k, cap k, ap (λ n. count n x k) same);
}

-- The proof on paper. Let x be accepted with prices p, and z a plan that is legal if period a has one place more. Each flight pays, cost and
-- price together, no more in x than in z; add up over the flights. The prices paid, added up by periods, are price times landings. In no
-- period are they worth more in z than in x, but for one price of a: where x leaves room the price is 0, and where x fills the period, z
-- lands no more there, and one more in a. So the costs of x are at most those of z and the price of a.
module _ (d : Instance) (x p z : ℕ → ℕ) (a : ℕ) (said : Accepted d x p) (legal : Legal (more d a) z) where
  in_day : (y : ℕ → ℕ) → ((i : ℕ) → i < d.n → In d i (y i)) → (i : ℕ) → i < d.n → y i < d.m
  in_day y w i l = omega (arith, (w i l).to, d.within i)

  z_window : (i : ℕ) → i < d.n → In d i (z i)
  z_window i l = record { from = (legal.window i l).from; to = (legal.window i l).to }

  worth : (k : ℕ) → k < d.m → p k * count d.n z k ≤ p k * count d.n x k + gate (eqb a k) (p k)
  worth k l = elim (lt? (count d.n x k) (d.cap k)) [
    | inl free ↦ rw (said.unsold k free) (omega arith)
    | inr full ↦ omega (
      arith,
      gate_one (eqb a k) (p k) (count d.n x k),
      mul-le-mul_left (p k) (fits k full),
    )
  ]
    where
      fits : (k : ℕ) → d.cap k ≤ count d.n x k → count d.n z k ≤ count d.n x k + gate (eqb a k) 1
      fits k full = omega (arith, legal.room k)

  pub dual : total d x ≤ total d z + gate (ltb a d.m) (p a)
  unfolding total
  dual = omega (
    arith,
    sum_le d.n (λ i. d.cost i (x i) + p (x i)) (λ i. d.cost i (z i) + p (z i)) (λ i l. said.best i (z i) l (z_window i l)),
    sum_add d.n (λ i. d.cost i (x i)) (λ i. p (x i)),
    sum_add d.n (λ i. d.cost i (z i)) (λ i. p (z i)),
    exchange_all d.n d.m x p (in_day x said.legal.window),
    exchange_all d.n d.m z p (in_day z z_window),
    sum_le d.m (λ k. p k * count d.n z k) (λ k. p k * count d.n x k + gate (eqb a k) (p k)) worth,
    sum_add d.m (λ k. p k * count d.n x k) (λ k. gate (eqb a k) (p k)),
    sum_pick d.m a p,
  )

-- weak duality: the case in which a is no period of the day, so that nothing is added
pub accepted_is_cheapest : (d : Instance) (x p : ℕ → ℕ) → Accepted d x p → Cheapest d x
accepted_is_cheapest d x p said = record {
  legal = said.legal;
  least = λ z legal. omega (arith, dual d x p z d.m said (legal_in d (more d d.m) refl (λ i. omega arith) (λ i. omega arith) (λ j. omega arith) legal), gate_ge d.m d.m (p d.m) (omega arith));
}
