-- The laws of a flight's cost and window, and of rows by period.
-- Assumes nothing.
use mathlib.Core.Path.{◌≡◌, refl, ap}
use mathlib.Core.Logic.{◌≢◌, inl, inr}
use mathlib.Core.List.{List, ◌∷◌}
use Prim.Native.Nat.{ℕ, zero, suc, ◌+◌, ◌-◌, ◌*◌, ◌≤◌, ◌<◌}
use native.Mathlib.Nat.{mul-le-mul_left}
use native.Mathlib.Omega.{arith}
use lib.Dec.{ltb}
use lib.ListN.{length, get_or, set, get_or-eq_default}
use lib.Seq.{get_or-set_same, get_or-set_other, set_out}
use borrow.Author.Tests.{eq-eqb, ne_eqb}
use Rattle.assignment.specs.Sum.{gate}
use Rattle.assignment.specs.Moves.{Moved}
use Rattle.assignment.proofs.Tests.{eq?, lt?, gate_le, gate_lt, gate_ge, gate_eq, gate_ne}
use Rattle.day.specs.declared.Flight.{Flight}
use Rattle.day.specs.Day.{Day, P, due, rate, after, jump, late, limit, unlimited, of_period, takes_of, counted_of, flight_at, hold_cost, cost, latest_of, latest}

-- ---- rows by period

pub period_in : (row : List ℕ) (k : ℕ) → k ≢ 0 → of_period row k ≡ get_or row (k - 1) 0
period_in row zero h = absurd (h refl)
period_in row (suc k) h = let e : k ≡ suc k - 1 = omega arith in ap (λ z. get_or row z 0) e

pub period_out : (row : List ℕ) (k : ℕ) → length row < k → of_period row k ≡ 0
period_out row k h = get_or-eq_default (0 ∷ row) 0 h

-- one entry stored
pub period_moved : (row : List ℕ) (k v : ℕ) → 1 ≤ k → k ≤ length row → Moved (of_period row) (of_period (set row (k - 1) v)) k v
period_moved row zero v some l = absurd (omega arith)
period_moved row (suc k) v some l =
    let e : suc k - 1 ≡ k = omega arith in
    rw e (record {
      here = get_or-set_same (0 ∷ row) (suc k) v 0 (omega arith);
      others = λ o f. get_or-set_other (0 ∷ row) (suc k) o v 0 f;
    })

-- none is stored past the last
pub period_set_out : (row : List ℕ) (k v o : ℕ) → length row < k → of_period (set row (k - 1) v) o ≡ of_period row o
period_set_out row k v o l = ap (λ r. of_period r o) (set_out row (k - 1) v (omega arith))

-- ---- what a period takes

module _ (capacities : List ℕ) (closing : ℕ) where
  pub takes_other : (k : ℕ) → k ≢ length capacities + 1 → takes_of capacities closing k ≡ of_period capacities k
  unfolding takes_of
  takes_other k other = omega (arith, gate_ne k (length capacities + 1) closing other)

  pub takes_in : (k : ℕ) → k ≤ length capacities → takes_of capacities closing k ≡ of_period capacities k
  takes_in k l = takes_other k (omega arith)

  pub takes_closing : takes_of capacities closing (length capacities + 1) ≡ closing
  unfolding takes_of
  takes_closing =
      omega (arith, gate_eq (length capacities + 1) (length capacities + 1) closing refl, period_out capacities (length capacities + 1) (omega arith))

-- ---- which periods are counted

module _ (p closing : ℕ) where
  pub counted_line : closing < unlimited → counted_of p closing ≡ p + 1
  unfolding counted_of
  counted_line l = omega (arith, gate_lt closing unlimited 1 l)

  pub counted_open : unlimited ≤ closing → counted_of p closing ≡ p
  unfolding counted_of
  counted_open l = omega (arith, gate_ge closing unlimited 1 (omega arith))

  pub counted_from : p ≤ counted_of p closing
  unfolding counted_of
  counted_from = omega arith

  pub counted_to : counted_of p closing ≤ p + 1
  counted_to = elim (lt? closing unlimited) [ inl l ↦ omega (arith, counted_line l) | inr l ↦ omega (arith, counted_open l) ]

  -- beyond the last counted period only the closing period takes flights, and then any number
  pub uncounted : counted_of p closing < p + 1 → unlimited ≤ closing
  uncounted l = elim (lt? closing unlimited) [ inl line ↦ absurd (omega (arith, counted_line line)) | inr none ↦ omega (arith, none) ]

-- ---- costs

-- a hold costs at most one jump more than its periods
pub cost_most : (d : Day) (i h : ℕ) → cost d i h ≤ rate d i * h + jump d i
unfolding hold_cost flight_at
cost_most d i h = omega (arith, gate_le (ltb (after d i) (late d i + h)) (jump d i) (jump d i) (λ _. omega arith))

-- and without a jump just its periods, however late the flight is
pub cost_plain : (d : Day) (i h : ℕ) → jump d i ≡ 0 → cost d i h ≡ rate d i * h
unfolding hold_cost flight_at
cost_plain d i h none = omega (arith, cost_most d i h)

-- a longer hold costs no less
jump_rises : (a s t v : ℕ) → s ≤ t → gate (ltb a s) v ≤ gate (ltb a t) v
jump_rises a s t v l = elim (lt? a s) [
  | inl b ↦ omega (arith, gate_lt a s v b, gate_lt a t v (omega arith))
  | inr b ↦ omega (arith, gate_ge a s v b)
]

pub hold_rises : (f : Flight) (s t : ℕ) → s ≤ t → hold_cost f s ≤ hold_cost f t
unfolding hold_cost
hold_rises f s t l = omega (arith, mul-le-mul_left f.rate l, jump_rises f.after (f.late + s) (f.late + t) f.jump (omega arith))

-- and costs more, where the rate is not 0
module _ (d : Day) (i s t : ℕ) where
  pub cost_grows : 1 ≤ rate d i → s < t → cost d i s < cost d i t
  unfolding hold_cost flight_at
  cost_grows pos l = omega (arith, mul-le-mul_left (rate d i) l, jump_rises (after d i) (late d i + s) (late d i + t) (jump d i) (omega arith))

-- ---- windows

module _ (d : Day) (i : ℕ) where
  pub latest_missing : limit d i ≡ 255 → latest d i ≡ P d + 1
  unfolding latest_of flight_at
  latest_missing e = rw (eq-eqb (limit d i) 255 e)

  pub latest_given : limit d i ≢ 255 → latest d i ≡ due d i + limit d i
  unfolding latest_of flight_at
  latest_given e = rw (ne_eqb (limit d i) 255 e)

  pub due_latest : due d i ≤ P d → due d i ≤ latest d i
  due_latest l = elim (eq? (limit d i) 255) [ inl e ↦ omega (arith, latest_missing e) | inr e ↦ omega (arith, latest_given e) ]
