-- Where a new flight finds no place, a stretch of periods is short.
-- Assumes nothing.
use mathlib.Core.Path.{◌≡◌}
use mathlib.Core.Logic.{inl, inr}
use mathlib.Core.Bool.{Bool, ◌&&◌, not}
use Prim.Native.Nat.{ℕ, zero, suc, pred, ◌+◌, ◌*◌, ◌≤◌, ◌<◌}
use native.Mathlib.Nat.{add-zero, add-suc, suc-add}
use native.Mathlib.Omega.{arith}
use lib.Dec.{T, leb, ltb, leb→le, le→leb, ltb→lt, T_not, not_T}
use Rattle.assignment.specs.Sum.{gate, sum, count}
use Rattle.assignment.specs.Assignment.{Instance, In, Plan, must_land, room, Short}
use Rattle.assignment.specs.Instances.{grown}
use Rattle.assignment.proofs.Tests.{gate_on, gate_le, gate_mul_ge, T_and, test, lt?}
use Rattle.assignment.proofs.Sums.{sum_le, exchange}

-- a set r of periods from k up to where it ends, and from k down
record Up (r : ℕ → Bool) (k : ℕ) : Type 0 where
  hi : ℕ
  le_hi : k ≤ hi
  all : (j : ℕ) → k ≤ j → j ≤ hi → T (r j)
  above : T (not (r (suc hi)))

record Down (r : ℕ → Bool) (k : ℕ) : Type 0 where
  lo : ℕ
  pos : 1 ≤ lo
  lo_le : lo ≤ k
  all : (j : ℕ) → lo ≤ j → j ≤ k → T (r j)
  below : T (not (r (pred lo)))

module _ (r : ℕ → Bool) where
  only : (k : ℕ) → T (r k) → (j : ℕ) → k ≤ j → j ≤ k → T (r j)
  only k t j l m = let e : j ≡ k = omega arith in rw e t

  up : (d k : ℕ) → T (r k) → T (not (r (k + d))) → Up r k
  up zero k t out = absurd (T_not (r k) (rw add-zero at out) t)
  up (suc d) k t out = elim (test (r (suc k))) [
    | inl more ↦
        let u = up d (suc k) more (rw suc-add (rw add-suc at out)) in
        record {
          hi = u.hi;
          le_hi = omega (arith, u.le_hi);
          above = u.above;
          all = λ j l m. elim (lt? k j) [ inl a ↦ u.all j a m | inr b ↦ only k t j l b ];
        }
    | inr stop ↦ record { hi = k; le_hi = omega arith; all = only k t; above = stop }
  ]

  down : (k : ℕ) → T (r k) → T (not (r 0)) → Down r k
  down zero t out = absurd (T_not (r 0) out t)
  down (suc k) t out = elim (test (r k)) [
    | inl more ↦
        let d = down k more out in
        record {
          lo = d.lo;
          pos = d.pos;
          lo_le = omega (arith, d.lo_le);
          below = d.below;
          all = λ j l m. elim (lt? k j) [ inl a ↦ only (suc k) t j a m | inr b ↦ d.all j l b ];
        }
    | inr stop ↦ record { lo = suc k; pos = omega arith; lo_le = omega arith; all = only (suc k) t; below = stop }
  ]

-- the longest stretch of r around k
record Run (r : ℕ → Bool) (k : ℕ) : Type 0 where
  lo : ℕ
  hi : ℕ
  pos : 1 ≤ lo
  lo_le : lo ≤ k
  le_hi : k ≤ hi
  all : (j : ℕ) → lo ≤ j → j ≤ hi → T (r j)
  below : T (not (r (pred lo)))
  above : T (not (r (suc hi)))

run : (r : ℕ → Bool) (d k : ℕ) → T (r k) → T (not (r 0)) → T (not (r (k + d))) → Run r k
run r d k t out₀ out =
    let u = up r d k t out in
    let w = down r k t out₀ in
    record {
      lo = w.lo;
      hi = u.hi;
      pos = w.pos;
      lo_le = w.lo_le;
      le_hi = u.le_hi;
      below = w.below;
      above = u.above;
      all = λ j l m. elim (lt? k j) [ inl a ↦ u.all j (omega arith) m | inr b ↦ w.all j l b ];
    }

-- a window l .. m that lies in r and meets the stretch lies in the stretch
held : (r : ℕ → Bool) (k : ℕ) (w : Run r k) (l m i : ℕ) → l ≤ i → i ≤ m → w.lo ≤ i → i ≤ w.hi → ((j : ℕ) → l ≤ j → j ≤ m → T (r j))
    → T (leb w.lo l && leb m w.hi)
held r k w l m i li im ai ib all = T_and (leb w.lo l) (leb m w.hi) (le→leb w.lo l low) (le→leb m w.hi high)
  where
    low : w.lo ≤ l
    low = elim (lt? l w.lo) [
      | inl less ↦ absurd (T_not (r (pred w.lo)) w.below (all (pred w.lo) (omega arith) (omega arith)))
      | inr done ↦ done
    ]

    high : m ≤ w.hi
    high = elim (lt? w.hi m) [
      | inl more ↦ absurd (T_not (r (suc w.hi)) w.above (all (suc w.hi) (omega arith) more))
      | inr done ↦ done
    ]

-- x places the flights before the new one; r contains the new flight's window, and the windows of all who land in r, and all of r is full
pub record Stuck (d : Instance) (x : Plan) (r : ℕ → Bool) : Type 0 where
  pub window : (i : ℕ) → i < d.n → In d i (x i)
  pub within : (k : ℕ) → T (r k) → (1 ≤ k) × (k < d.m)
  pub full : (k : ℕ) → T (r k) → d.cap k ≤ count d.n x k
  pub closed : (i k : ℕ) → i < d.n → T (r (x i)) → In d i k → T (r k)
  pub new : (k : ℕ) → In d d.n k → T (r k)
  pub some : d.lo d.n ≤ d.hi d.n

-- a stretch inside r is short for the new flight and those before it
pub record ShortIn (d : Instance) (r : ℕ → Bool) : Type 0 where
  pub a : ℕ
  pub b : ℕ
  pub from : 1 ≤ a
  pub stretch : a ≤ b
  pub inside : (k : ℕ) → a ≤ k → k ≤ b → T (r k)
  pub short : Short (grown d) a b

-- The proof on paper: Hall's condition for intervals. Take the longest run of periods of r around the start of the new flight's window. The
-- periods before and behind it are not in r. A flight that lands in the run has its window in r, and a window is an interval, so it lies in
-- the run: the flight must land there, and so must the new one. Those who land in the run fill it. So one more must land there than can.
module _ {d : Instance} {x : Plan} {r : ℕ → Bool} (s : Stuck d x r) where
  abbrev new_lo : ℕ
  new_lo = d.lo d.n

  outside : (k : ℕ) → ((1 ≤ k) × (k < d.m) → ⊥) → T (not (r k))
  outside k no_way = not_T (r k) (λ t. no_way (s.within k t))

  new : (k : ℕ) → new_lo ≤ k → k ≤ d.hi d.n → T (r k)
  new k a b = s.new k (record { from = a; to = b })

  start : T (r new_lo)
  start = new new_lo (omega arith) s.some

  w : Run r new_lo
  w = run r d.m new_lo start (outside 0 (λ q. omega arith)) (outside (new_lo + d.m) (λ q. omega (arith, s.within new_lo start)))

  must : ℕ → Bool
  must i = leb w.lo (d.lo i) && leb (d.hi i) w.hi

  -- whoever lands in the stretch can land there alone
  bound : (i : ℕ) → i < d.n → gate (ltb (x i) (w.hi + 1)) (gate (leb w.lo (x i)) 1) ≤ gate (must i) 1
  unfolding must
  bound i l = gate_le (ltb (x i) (w.hi + 1)) _ _ (λ t. gate_le (leb w.lo (x i)) 1 _ (λ q.
      let high = ltb→lt (x i) (w.hi + 1) t in
      let low = leb→le w.lo (x i) q in
      let v = s.window i l in
      let stay = held r new_lo w (d.lo i) (d.hi i) (x i) v.from v.to low (omega arith)
      (λ j a b. s.closed i j l (w.all (x i) low (omega arith)) (record { from = a; to = b })) in
      omega (arith, gate_on (must i) 1 stay)))

  less : room (grown d) w.lo w.hi < must_land (grown d) w.lo w.hi
  unfolding room must_land sum must
  less =
      omega (
        arith,
        gate_on (must d.n) 1 (held r new_lo w new_lo (d.hi d.n) new_lo (omega arith) s.some w.lo_le w.le_hi new),
        sum_le d.n (λ i. gate (ltb (x i) (w.hi + 1)) (gate (leb w.lo (x i)) 1)) (λ i. gate (must i) 1) bound,
        exchange d.n (w.hi + 1) x (λ k. gate (leb w.lo k) 1),
        sum_le (w.hi + 1) (λ k. gate (leb w.lo k) (d.cap k)) (λ k. gate (leb w.lo k) 1 * count d.n x k)
            (λ k l. gate_mul_ge (leb w.lo k) _ _ (λ t. s.full k (w.all k (leb→le w.lo k t) (omega arith)))),
      )

  pub stuck_is_short : ShortIn d r
  stuck_is_short = record {
    a = w.lo;
    b = w.hi;
    from = w.pos;
    stretch = omega (arith, w.lo_le, w.le_hi);
    inside = w.all;
    short = record { short = less };
  }
