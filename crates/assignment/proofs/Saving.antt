-- Prices that are held up: each is what one more landing in its period would save, so none is above the total.
-- Assumes nothing.
use mathlib.Core.Path.{◌≡◌, ap}
use mathlib.Core.Logic.{inl, inr, ◌≢◌}
use Prim.Native.Nat.{ℕ, zero, suc, ◌+◌, ◌≤◌, ◌<◌}
use native.Mathlib.Omega.{arith}
use lib.Dec.{eqb}
use Rattle.assignment.specs.Sum.{gate, count}
use Rattle.assignment.specs.Assignment.{Instance, In, Plan, Legal, total}
use Rattle.assignment.specs.Moves.{Moved, put}
use Rattle.assignment.specs.Instances.{more}
use Rattle.assignment.specs.Insertion.{Link, Held, Sound}
use Rattle.assignment.proofs.Moves.{moved_count, moved_total, moved_window, put_moved}

-- a plan of the day with one more place in k, which saves the price of k
pub record Saved (d : Instance) (x q : ℕ → ℕ) (k : ℕ) : Type 0 where
  pub plan : Plan
  pub window : (i : ℕ) → i < d.n → In d i (plan i)
  pub counts : (j : ℕ) → count d.n plan j ≤ count d.n x j + gate (eqb k j) 1
  pub saves : total d plan + q k ≡ total d x

-- a link of which the flight stays
pub stays : {d : Instance} {x y q height : ℕ → ℕ} {k i z : ℕ} → Moved x y i z → (a : Link d x q height k) → a.by ≢ i → Link d y q height k
stays v a e = let same = v.others a.by e in record { by = a.by; who = a.who; fits = a.fits; lower = rw same a.lower; tie = rw same a.tie }

-- The proof on paper, by the height of k. If the price of k is 0, the plan itself saves it. Else k is held up by a flight i that lands in a
-- lower period j and pays the same in k. Move i to k: the total falls by the price of k less that of j, and j has a place that nobody uses.
-- What holds up the periods up to j lands lower than j, so it is not i, and holds them up still. So by induction the plan with one more place
-- in j saves the price of j, and in all the price of k is saved, with one more landing in k alone.
module _ (d : Instance) (q height : ℕ → ℕ) where
  pub save : (t k : ℕ) (x : Plan) → height k < t → ((i : ℕ) → i < d.n → In d i (x i)) → ((j : ℕ) → height j ≤ height k → Held d x q height j) → Saved d x q k
  save zero k x b w held = absurd (omega arith)
  save (suc t) k x b w held = elim (held k (omega arith)) [
    | inl free ↦ record { plan = x; window = w; counts = λ j. omega arith; saves = omega arith }
    | inr a ↦
        let i = a.by in
        let v = put_moved x i k in
        let s : Saved d (put x i k) q (x i) = save t (x i) (put x i k) (omega (arith, a.lower)) (moved_window d v a.who a.fits w)
        (λ j low. elim (held j (omega (arith, a.lower))) [
          | inl free ↦ inl free
          | inr o ↦ inr (stays v o (λ e. omega (arith, o.lower, ap (λ z. height (x z)) e)))
        ]) in
        record {
          plan = s.plan;
          window = s.window;
          counts = λ j. omega (arith, s.counts j, moved_count d v a.who j);
          saves = omega (arith, s.saves, moved_total d v a.who, a.tie);
        }
  ]

-- prices that are accepted and held up save what they say
module _ {d : Instance} {x q : ℕ → ℕ} (s : Sound d x q) where
  pub saved : (k : ℕ) → Saved d x q k
  saved k = save d q s.height (suc (s.height k)) k x (omega arith) s.accepted.legal.window (λ j _. s.held j)

  pub saved_legal : (k : ℕ) → Legal (more d k) (saved k).plan
  saved_legal k = record {
    window = λ i l. let w = (saved k).window i l in record { from = w.from; to = w.to };
    room = λ j. omega (arith, (saved k).counts j, s.accepted.legal.room j);
  }

  -- no price is above the total
  pub price_le : (k : ℕ) → q k ≤ total d x
  price_le k = omega (arith, (saved k).saves)
