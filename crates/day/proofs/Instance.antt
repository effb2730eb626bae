-- A day is an assignment problem in which the closing period is one more period, of the closing number's capacity: no day can fill 256.
-- So what holds of assignments holds of days: accepted prices show that a plan is cheapest, and a short stretch that there is none.
-- Assumes nothing.
use mathlib.Core.Path.{◌≡◌, refl, sym, ap, ◌∙◌}
use mathlib.Core.Logic.{◌≢◌, inl, inr}
use mathlib.Core.List.{List}
use Prim.Native.Nat.{ℕ, zero, suc, ◌+◌, ◌-◌, ◌≤◌, ◌<◌}
use native.Mathlib.Nat.{mul-le-mul}
use native.Mathlib.Omega.{arith}
use lib.ListN.{length}
use lib.Dec.{eqb}
use Rattle.assignment.specs.Sum.{gate, count}
use Rattle.assignment.specs.Assignment as A
use Rattle.assignment.proofs.Tests.{lt?, eq?, gate_ne}
use Rattle.assignment.specs.Rows.{row}
use Rattle.assignment.proofs.Sums.{sum_ext, sum_zero, sum_most, count_le, count_ext}
use Rattle.assignment.proofs.Rows.{row_length, row_at}
use Rattle.assignment.proofs.Duality as duality
use Rattle.assignment.proofs.Stretch as stretch
use Rattle.day.specs.Day.{Day, P, N, due, rate, of_period, takes, counted, cost, latest, Window, hold, land, total_of, total, last_of, last}
use Rattle.day.specs.Plan.{Legal, Cheapest, Accepted, must_land, room, Short}
use Rattle.day.proofs.Costs.{takes_closing, counted_from, uncounted, period_out, cost_most}
use Rattle.day.specs.Valid.{ValidFlights, Valid}
use Rattle.day.specs.Instance.{last_to, instance}
use Rattle.day.proofs.Valid.{valid_flights}

pub last_latest : (d : Day) (i : ℕ) → last d i ≤ latest d i
unfolding last_of
last_latest d i = omega arith

-- ---- windows

pub window_in : {d : Day} {i k : ℕ} → Window d i k → A.In (instance d) i k
unfolding last_of
window_in w = record { from = w.from; to = omega (arith, w.closing, w.limited) }

pub in_window : {d : Day} {i k : ℕ} → A.In (instance d) i k → Window d i k
in_window {d} {i} w = record { from = w.from; closing = omega (arith, w.to, last_to d i); limited = omega (arith, w.to, last_latest d i) }

-- ---- counts of landings

pub count_out : (n : ℕ) (x : ℕ → ℕ) (k : ℕ) → ((i : ℕ) → i < n → x i ≢ k) → count n x k ≡ 0
unfolding count
count_out n x k h = sum_zero n (λ i. gate (eqb (x i) k) 1) (λ i l. gate_ne (x i) k 1 (h i l))

-- ---- plans and prices

hold_of : (d : Day) (h : List ℕ) (i : ℕ) → land d h i - due d i ≡ hold h i
hold_of d h i = omega arith

pub total_instance : (d : Day) (h : List ℕ) → A.total (instance d) (land d h) ≡ total d h
unfolding A.total total_of
total_instance d h = sum_ext (N d) (λ i. cost d i (land d h i - due d i)) (λ i. cost d i (hold h i)) (λ i l. ap (cost d i) (hold_of d h i))

-- only the flights need be valid
pub legal_instance : {d : Day} {h : List ℕ} → ValidFlights (P d) d.flights → Legal d h → A.Legal (instance d) (land d h)
legal_instance {d} {h} v legal = record { window = λ i l. window_in (legal.window i l); room = fits }
  where
    fits : (k : ℕ) → count (N d) (land d h) k ≤ takes d k
    fits k = elim (lt? (counted d) k) [
      | inr in_day ↦ elim (lt? 0 k) [
        | inl some ↦ legal.room k some in_day
        | inr none ↦ omega (arith, count_out (N d) (land d h) k (λ i l. omega (arith, (v.flight i l).due_from)))
      ]
      | inl past ↦ elim (eq? k (P d + 1)) [
        | inl closing ↦ rw closing (omega (
          arith,
          takes_closing d.capacities d.closing,
          uncounted (P d) d.closing (omega arith),
          count_le (N d) (land d h) (P d + 1),
          v.flights_to,
        ))
        | inr out ↦
            omega (arith, count_out (N d) (land d h) k (λ i l. omega (arith, (legal.window i l).closing, counted_from (P d) d.closing)))
      ]
    ]

pub instance_legal : {d : Day} {h : List ℕ} → length h ≡ N d → A.Legal (instance d) (land d h) → Legal d h
instance_legal {d} each legal = record {
  each = each;
  window = λ i l. in_window (legal.window i l);
  room = λ k a b. legal.room k;
}

-- a plan as a row of holds
abbrev pub holds_of : Day → (ℕ → ℕ) → List ℕ
holds_of d x = row (N d) (λ i. x i - due d i)

module _ (d : Day) {x : ℕ → ℕ} (legal : A.Legal (instance d) x) where
  lands : (i : ℕ) → i < N d → land d (holds_of d x) i ≡ x i
  lands i l = omega (arith, row_at (N d) (λ o. x o - due d o) i 0 l, (legal.window i l).from)

  pub holds_legal : Legal d (holds_of d x)
  holds_legal = instance_legal (row_length (N d) _) (record {
    window = λ i l. rw (lands i l) (legal.window i l);
    room = λ k. omega (arith, count_ext (N d) x (land d (holds_of d x)) lands k, legal.room k);
  })

  pub holds_total : total d (holds_of d x) ≡ A.total (instance d) x
  unfolding A.total
  holds_total =
      sym (total_instance d (holds_of d x))
      ∙ sum_ext (N d) (λ i. cost d i (land d (holds_of d x) i - due d i)) (λ i. cost d i (x i - due d i)) (λ i l. ap (λ k. cost d i (k - due d i)) (lands i l))

module _ {d : Day} {h p : List ℕ} where
  pub accepted_instance : Valid d → Accepted d h p → A.Accepted (instance d) (land d h) (of_period p)
  accepted_instance v said = record {
    legal = legal_instance (valid_flights v) said.legal;
    unsold = unsold;
    best = λ i k l w. rw (hold_of d h i) (said.least i k l (in_window w));
  }
    where
      unsold : (k : ℕ) → count (N d) (land d h) k < takes d k → of_period p k ≡ 0
      unsold zero less = refl
      unsold (suc k) less = elim (lt? k (counted d)) [
        | inl in_day ↦ said.unsold (suc k) (omega arith) in_day less
        | inr past ↦ period_out p (suc k) (omega (arith, said.each))
      ]

  pub instance_accepted : length h ≡ N d → length p ≡ counted d → A.Accepted (instance d) (land d h) (of_period p) → Accepted d h p
  instance_accepted holds prices said = record {
    legal = instance_legal holds said.legal;
    each = prices;
    unsold = λ k a b less. said.unsold k less;
    least = λ i k l w. rw (hold_of d h i) at (said.best i k l (window_in w));
  }

-- "A yes means that no legal plan is cheaper."
pub accepted_is_cheapest : {d : Day} {h p : List ℕ} → Valid d → Accepted d h p → Cheapest d h
accepted_is_cheapest {d} {h} {p} v said = record {
  legal = said.legal;
  least = λ g legal. omega (
    arith,
    (duality.accepted_is_cheapest (instance d) (land d h) (of_period p) (accepted_instance v said)).least (land d g) (legal_instance (valid_flights v) legal),
    total_instance d h,
    total_instance d g,
  );
}

-- ---- stretches

module _ (d : Day) (a b : ℕ) where
  pub short_instance : Short d a b → A.Short (instance d) a b
  unfolding A.room A.must_land room must_land
  short_instance s = record { short = s.short }

  pub instance_short : 1 ≤ a → a ≤ b → b ≤ counted d → A.Short (instance d) a b → Short d a b
  unfolding A.room A.must_land room must_land
  instance_short from stretch to s = record { from = from; stretch = stretch; to = to; short = s.short }

-- a short stretch leaves no legal plan
pub short_has_no_plan : {d : Day} {a b : ℕ} {h : List ℕ} → Valid d → Short d a b → Legal d h → ⊥
short_has_no_plan {d} {a} {b} {h} v s legal = stretch.short_has_no_plan (short_instance d a b s) (land d h) (legal_instance (valid_flights v) legal)

-- ---- the bound of totals

module _ {d : Day} (v : Valid d) where
  pub hold_le : {h : List ℕ} {i : ℕ} → Legal d h → i < N d → hold h i ≤ 96
  hold_le {h} {i} legal l = omega (arith, (legal.window i l).closing, (v.flight i l).due_from, v.periods_to)

  pub cost_le : (i h : ℕ) → i < N d → h ≤ 96 → cost d i h ≤ 1960000
  cost_le i h l few =
      let r = mul-le-mul {n₁ = rate d i} {m₁ = h} {n₂ = 10000} {m₂ = 96} (v.flight i l).rate_to few in
      omega (arith, cost_most d i h, (v.flight i l).jump_to)

  -- "The total is the sum over flights, never above 250,880,000."
  pub total_le : {h : List ℕ} → Legal d h → total d h ≤ 250880000
  unfolding total_of
  total_le {h} legal = omega (arith, sum_most (N d) 1960000 (λ i. cost d i (hold h i)) (λ i l. cost_le i (hold h i) l (hold_le legal l)), v.flights_to)
