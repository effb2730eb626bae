-- The hold of least cost: none of its range costs less, and every smaller one costs more.
-- Assumes nothing.
use mathlib.Core.Path.{◌≡◌}
use mathlib.Core.Logic.{inl, inr}
use Prim.Native.Nat.{ℕ, zero, suc, ◌+◌, ◌≤◌, ◌<◌}
use native.Mathlib.Omega.{arith}
use native.Mathlib.Numerals.{add-one}
use borrow.Author.Tests.{lt-ltb, le-ltb}
use Rattle.assignment.proofs.Tests.{eq?, lt?}
use Rattle.forecast_plan.specs.Forecast.{better, least_hold}

-- the next hold is the least one if it costs less than the least so far
module _ (cost : ℕ → ℕ) (n : ℕ) where
  pub least_next : cost (n + 1) < cost (least_hold n cost) → least_hold (n + 1) cost ≡ n + 1
  unfolding least_hold
  least_next l = rw add-one (rw (lt-ltb (cost (suc n)) (cost (least_hold n cost)) (rw add-one at l)))

  pub least_stays : cost (least_hold n cost) ≤ cost (n + 1) → least_hold (n + 1) cost ≡ least_hold n cost
  unfolding least_hold
  least_stays l = rw add-one (rw (le-ltb (cost (suc n)) (cost (least_hold n cost)) (rw add-one at l)))

-- the three facts of a least hold, each by cases of the last hold looked at
pub record IsLeast (cost : ℕ → ℕ) (n h : ℕ) : Type 0 where
  pub within : h ≤ n
  pub none_less : (g : ℕ) → g ≤ n → cost h ≤ cost g
  pub smaller_more : (g : ℕ) → g < h → cost h < cost g

is_least_next : {cost : ℕ → ℕ} {n h : ℕ} → IsLeast cost n h → IsLeast cost (suc n) (better cost (suc n) h)
is_least_next {cost} {n} {h} before = elim (lt? (cost (suc n)) (cost h)) [
  | inl less ↦ rw (lt-ltb (cost (suc n)) (cost h) less) (record {
    within = omega arith;
    none_less = λ g l. elim (eq? g (suc n)) [ inl e ↦ rw e (omega arith) | inr o ↦ omega (arith, before.none_less g (omega arith)) ];
    smaller_more = λ g l. omega (arith, before.none_less g (omega arith));
  })
  | inr least ↦ rw (le-ltb (cost (suc n)) (cost h) least) (record {
    within = omega (arith, before.within);
    none_less = λ g l. elim (eq? g (suc n)) [ inl e ↦ rw e least | inr o ↦ before.none_less g (omega arith) ];
    smaller_more = before.smaller_more;
  })
]

pub is_least : (cost : ℕ → ℕ) (n : ℕ) → IsLeast cost n (least_hold n cost)
unfolding least_hold
is_least cost zero = record {
  within = omega arith;
  none_less = λ g l. let e : g ≡ 0 = omega arith in rw e (omega arith);
  smaller_more = λ g l. absurd (omega arith);
}
is_least cost (suc n) = is_least_next (is_least cost n)

-- no other hold is a least one
pub least_only : {cost : ℕ → ℕ} {n h g : ℕ} → IsLeast cost n h → IsLeast cost n g → h ≡ g
least_only {h = h} {g = g} a b = elim (lt? h g) [
  | inl l ↦ absurd (omega (arith, b.smaller_more h l, a.none_less g b.within))
  | inr l ↦ elim (eq? h g) [ inl e ↦ e | inr o ↦ absurd (omega (arith, a.smaller_more g (omega arith), b.none_less h a.within)) ]
]

-- costs that agree have the same
pub least_same : (cost other : ℕ → ℕ) (n : ℕ) → ((h : ℕ) → h ≤ n → cost h ≡ other h) → least_hold n cost ≡ least_hold n other
least_same cost other n same = least_only (is_least cost n) (record {
  within = o.within;
  none_less = λ g l. rw (same (least_hold n other) o.within, same g l) (o.none_less g l);
  smaller_more = λ g l. rw (same (least_hold n other) o.within, same g (omega (arith, o.within))) (o.smaller_more g l);
})
  where
    o : IsLeast other n (least_hold n other)
    o = is_least other n
