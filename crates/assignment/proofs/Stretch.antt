-- A short stretch leaves no legal plan: the flights that must land in it do so in every legal plan, and at most its capacities do.
-- Assumes nothing.
use mathlib.Core.Bool.{◌&&◌}
use Prim.Native.Nat.{ℕ, ◌+◌, ◌*◌, ◌≤◌, ◌<◌}
use native.Mathlib.Omega.{arith}
use lib.Dec.{T, leb, ltb, leb→le, le→leb}
use Rattle.assignment.specs.Sum.{gate, count}
use Rattle.assignment.specs.Assignment.{Instance, Plan, Legal, must_land, room, Short}
use Rattle.assignment.proofs.Tests.{gate_on, gate_le, gate_lt, gate_mul_le, and_t}
use Rattle.assignment.proofs.Sums.{sum_le, exchange}

-- The proof on paper. In a legal plan whoever must land in a .. b does: his window lies in it. So those who must land there are at most those
-- who land there, and counted period by period these are at most the capacities.
module _ {d : Instance} {a b : ℕ} (s : Short d a b) (y : Plan) (legal : Legal d y) where
  inside : (i : ℕ) → i < d.n → T (leb a (d.lo i)) × T (leb (d.hi i) b) → 1 ≤ gate (ltb (y i) (b + 1)) (gate (leb a (y i)) 1)
  inside i l t =
      let low = leb→le a (d.lo i) t.0 in
      let high = leb→le (d.hi i) b t.1 in
      let w = legal.window i l in
      rw (gate_lt (y i) (b + 1) _ (omega (arith, w.to)), gate_on (leb a (y i)) 1 (le→leb a (y i) (omega (arith, w.from)))) (omega arith)

  pub short_has_no_plan : ⊥
  unfolding must_land room
  short_has_no_plan =
      omega (
        arith,
        s.short,
        sum_le d.n (λ i. gate (leb a (d.lo i) && leb (d.hi i) b) 1) (λ i. gate (ltb (y i) (b + 1)) (gate (leb a (y i)) 1))
            (λ i l. gate_le (leb a (d.lo i) && leb (d.hi i) b) 1 _ (λ t. inside i l (and_t (leb a (d.lo i)) (leb (d.hi i) b) t))),
        exchange d.n (b + 1) y (λ k. gate (leb a k) 1),
        sum_le (b + 1) (λ k. gate (leb a k) 1 * count d.n y k) (λ k. gate (leb a k) (d.cap k))
            (λ k l. gate_mul_le (leb a k) _ _ (λ t. legal.room k)),
      )
