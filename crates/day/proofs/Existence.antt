-- A legal plan of a day exists exactly when no stretch is short.
-- Assumes nothing.
use mathlib.Core.Path.{◌≡◌, ap}
use mathlib.Core.Logic.{◌⊎◌, inl, inr, ◌↔◌}
use mathlib.Core.Bool.{◌&&◌}
use Prim.Native.Nat.{ℕ, ◌+◌, ◌≤◌, ◌<◌}
use native.Mathlib.Omega.{arith}
use lib.Dec.{leb, le→leb}
use Rattle.assignment.specs.Sum.{gate}
use Rattle.assignment.specs.Assignment as A
use Rattle.assignment.proofs.Tests.{lt?, gate_on, gate_le}
use Rattle.assignment.proofs.Sums.{sum_most, sum_member}
use Rattle.assignment.proofs.Existence as existence
use Rattle.day.specs.Day.{Day, P, N, due, takes, counted, last_of, last}
use Rattle.day.specs.Plan.{HasPlan, Short, Picked}
use Rattle.day.specs.Valid.{Valid}
use Rattle.day.specs.Instance.{instance}
use Rattle.day.proofs.Costs.{takes_closing, counted_from, uncounted, due_latest}
use Rattle.day.proofs.Instance.{holds_of, holds_legal, instance_short, short_has_no_plan}

pub record HasShort (d : Day) : Type 0 where
  pub a : ℕ
  pub b : ℕ
  pub short : Short d a b

module _ {d : Day} (v : Valid d) where
  due_le_last : (i : ℕ) → i < N d → due d i ≤ last d i
  unfolding last_of
  due_le_last i l = omega (arith, due_latest d i (v.flight i l).due_to, (v.flight i l).due_to)

  plan_of_day : existence.HasPlan (instance d) → HasPlan d
  plan_of_day p = record { holds = holds_of d p.plan; legal = holds_legal d p.legal }

  -- a short stretch ends in a period that is counted: a closing period without a line has room for every flight
  short_to : {a b : ℕ} → a ≤ b → A.Short (instance d) a b → b < P d + 2 → b ≤ counted d
  unfolding A.room A.must_land
  short_to {a} {b} stretch s m = elim (lt? (counted d) b) [
    | inr to ↦ to
    | inl past ↦
        let e : b ≡ P d + 1 = omega (arith, counted_from (P d) d.closing) in
        absurd (omega (
          arith,
          s.short,
          sum_member (b + 1) b (λ k. gate (leb a k) (takes d k)) (omega arith),
          gate_on (leb a b) (takes d b) (le→leb a b stretch),
          ap (takes d) e,
          takes_closing d.capacities d.closing,
          uncounted (P d) d.closing (omega arith),
          sum_most (N d) 1 (λ i. gate (leb a (due d i) && leb (last d i) b) 1)
              (λ i l. gate_le (leb a (due d i) && leb (last d i) b) 1 1 (λ t. omega arith)),
          v.flights_to,
        ))
  ]

  short_of_day : existence.HasShort (instance d) → HasShort d
  short_of_day s =
      let to = short_to s.stretch s.short s.to in
      record { a = s.a; b = s.b; short = instance_short d s.a s.b s.from s.stretch to s.short }

  pub plan_or_short : HasPlan d ⊎ HasShort d
  plan_or_short = elim (existence.plan_or_short (instance d) proper) [ inl p ↦ inl (plan_of_day p) | inr s ↦ inr (short_of_day s) ]
    where
      proper : existence.Proper (instance d)
      proper = record { from = λ i l. (v.flight i l).due_from; some = due_le_last }

  -- "A legal plan exists exactly when no stretch is short." The assignment that the day is has a plan or a short stretch; its plan is one of
  -- the day, and its stretch ends in a counted period, since a closing period without a line alone has room for every flight.
  pub plan_exactly : HasPlan d ↔ ((a b : ℕ) → Short d a b → ⊥)
  plan_exactly = (
    λ p a b s. short_has_no_plan v s p.legal,
    λ none. elim plan_or_short [ inl p ↦ p | inr s ↦ absurd (none s.a s.b s.short) ],
  )

-- inside the stretch that answer 9 names no other is short
pub picked_inside : {d : Day} {a b first last : ℕ} → Picked d a b → Short d first last → a ≤ first → last ≤ b → (first ≡ a) × (last ≡ b)
picked_inside {b = b} {first = first} {last = last} p s from to =
    let e : last ≡ b = omega (arith, p.smallest_last first last s) in
    (omega (arith, p.largest_first first (rw e at s)), e)
