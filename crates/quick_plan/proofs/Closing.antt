-- The quick plan and the closing number (#108), for any next cost: more flights are left than the closing period takes exactly if no legal
-- plan exists, and then the stretch that answer 9 names is the picked one.
-- Assumes nothing.
use Rattle.std.proofs.Common.{Err}
use mathlib.Core.Path.{◌≡◌, refl, sym, ap, ◌∙◌}
use mathlib.Core.Logic.{inl, inr, ◌↔◌}
use mathlib.Core.Bool.{Bool, true, false, cond, ◌&&◌}
use mathlib.Core.List.{List}
use Prim.Native.Nat.{ℕ, zero, suc, ◌+◌, ◌-◌, ◌≤◌, ◌<◌, zero-le}
use native.Mathlib.Omega.{arith}
use lib.Dec.{leb, ltb}
use borrow.Author.Tests.{lt-ltb, le-ltb, ltb-true, lt-leb}
use Rattle.assignment.specs.Sum.{gate}
use Rattle.assignment.proofs.Tests.{lt?, and_false}
use Rattle.assignment.proofs.Sums.{sum_zero}
use Rattle.answers.specs.Answers.{Outcome, outcome}
use Rattle.answers.specs.declared.Refusal.TheVariants.{NoPlan}
use Rattle.day.specs.Day.{Day, P, N, due, last, valid}
use Rattle.day.specs.Plan.{HasPlan, must_land, room, Short, Picked, first_of, first_jump_or_limit}
use Rattle.day.proofs.Costs.{counted_to}
use Rattle.day.proofs.Existence.{HasShort, plan_exactly, plan_or_short}
use Rattle.day.proofs.Instance.{short_has_no_plan}
use Rattle.day.proofs.Valid.{valid_means}
use Rattle.quick_plan.specs.Quick.{quick_by, left_over}
use Rattle.quick_plan.specs.Calls.{short_from, more_left, if_room}
use Rattle.quick_plan.proofs.Applies.{last_closing}
use Rattle.quick_plan.proofs.Plan.{quick_legal}
use Rattle.quick_plan.proofs.Cheapest.{left_fits}

-- where an index passes, the first that does passes and is no greater
first_passes : (n : ℕ) (f : ℕ → Bool) (i : ℕ) → i < n → f i ≡ true → (f (first_of n f) ≡ true) × (first_of n f ≤ i)
unfolding first_of
first_passes zero f i l e = absurd (omega arith)
first_passes (suc n) f i l e = at (f 0) refl i l e (first_passes n (λ j. f (suc j)))
  where
    at : (t : Bool) → f 0 ≡ t → (i : ℕ) → i < suc n → f i ≡ true
        → ((i : ℕ) → i < n → f (suc i) ≡ true → (f (suc (first_of n (λ j. f (suc j)))) ≡ true) × (first_of n (λ j. f (suc j)) ≤ i))
        → (f (cond t 0 (suc (first_of n (λ j. f (suc j))))) ≡ true) × (cond t 0 (suc (first_of n (λ j. f (suc j)))) ≤ i)
    at true s i l e rest = (s, zero-le)
    at false s zero l e rest = absurd (omega (arith, ap {B = ℕ} (λ b. cond b 1 0) (sym e ∙ s)))
    at false s (suc i) l e rest = let w = rest i (omega arith) e in (w.0, omega (arith, w.1))

module _ (d : Day) (v : valid d ≡ true) (applies : first_jump_or_limit d.flights ≡ N d) where
  -- every flight may land in the closing period, so that a short stretch ends there
  short_closes : {a b : ℕ} → Short d a b → b ≡ P d + 1
  unfolding must_land
  short_closes {a} {b} s = elim (lt? b (P d + 1)) [
    | inl early ↦ absurd (omega (
      arith,
      s.short,
      sum_zero (N d) (λ i. gate (leb a (due d i) && leb (last d i) b) 1)
          (λ i l. rw (last_closing d applies i l, lt-leb (P d + 1) b early, and_false (leb a (due d i)))),
    ))
    | inr late ↦ omega (arith, s.to, counted_to (P d) d.closing)
  ]

  -- where a stretch is short, the largest first period of those that end in the closing period is that of the picked one
  short_picked : HasShort d → Picked d (short_from d (P d + 1)) (P d + 1)
  unfolding short_from
  short_picked some = record {
    short = record {
      from = omega (arith, (least some.a there).1, there.from);
      stretch = omega arith;
      to = there.to;
      short = ltb-true _ _ (least some.a there).0;
    };
    smallest_last = λ p q s. omega (arith, short_closes s);
    largest_first = λ p s. omega (arith, (least p s).1, s.stretch);
  }
    where
      there : Short d some.a (P d + 1)
      there = rw (short_closes some.short) at some.short

      -- the stretch that ends in the closing period and has k periods more is short
      short_by : ℕ → Bool
      short_by k = ltb (room d (P d + 1 - k) (P d + 1)) (must_land d (P d + 1 - k) (P d + 1))

      least : (p : ℕ) → Short d p (P d + 1) → (short_by (first_of (P d + 1) short_by) ≡ true) × (first_of (P d + 1) short_by ≤ P d + 1 - p)
      least p s =
          let back : P d + 1 - (P d + 1 - p) ≡ p = omega (arith, s.stretch) in
          first_passes (P d + 1) short_by (P d + 1 - p) (omega (arith, s.from)) (rw back (lt-ltb _ _ s.short))

  module _ (next : ℕ → ℕ → ℕ) where
    -- The quick plan is legal where the closing period has room for those left; and no legal plan leaves fewer than it does, since of all
    -- flights together as many land in each period as it takes, or all that wait.
    pub left_exactly : HasPlan d ↔ (left_over d next ≤ d.closing)
    left_exactly = (
      λ p. left_fits d next v p.holds p.legal,
      λ few. record { holds = quick_by d next; legal = quick_legal d next v applies few },
    )

    -- "9 when more flights are left than c": exactly if no legal plan exists
    pub nine_exactly : (d.closing < left_over d next) ↔ (HasPlan d → ⊥)
    nine_exactly = (
      λ more p. omega (arith, left_exactly.0 p),
      λ none. elim (lt? d.closing (left_over d next)) [ inl more ↦ more | inr few ↦ absurd (none (left_exactly.1 few)) ],
    )

    -- and then its stretch is the picked one
    pub nine_picked : d.closing < left_over d next → Picked d (short_from d (P d + 1)) (P d + 1)
    nine_picked more = elim (plan_or_short (valid_means v)) [ inl p ↦ absurd (nine_exactly.0 more p) | inr s ↦ short_picked s ]

    -- ---- what the search for a short stretch comes to

    not_more : left_over d next ≤ d.closing → more_left d next ≡ false
    not_more few = le-ltb d.closing (left_over d next) few

    more_left_lem : d.closing < left_over d next → more_left d next ≡ true
    more_left_lem more = lt-ltb d.closing (left_over d next) more

    module _ (holds : List ℕ) (plan : Outcome) where
      pub found_short : {a b : ℕ} → Picked d a b → if_room d next holds plan ≡ outcome (Err (NoPlan a b)) holds
      found_short {a} {b} p =
          let more = nine_exactly.1 (λ some. short_has_no_plan (valid_means v) p.short some.legal) in
          let q = nine_picked more in
          let same = rw (short_closes p.short) at p in
          let f : short_from d (P d + 1) ≡ a = omega (arith, same.largest_first _ q.short, q.largest_first a same.short) in
          rw (more_left_lem more, f, short_closes p.short)

      pub none_short : ((a b : ℕ) → Short d a b → ⊥) → if_room d next holds plan ≡ plan
      none_short none = rw (not_more (left_exactly.0 ((plan_exactly (valid_means v)).1 none)))
