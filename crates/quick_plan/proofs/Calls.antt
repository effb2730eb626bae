-- What the check and the call come to, a law for each of their ways.
-- Assumes nothing.
use Rattle.std.proofs.Common.{Result, Ok, Err}
use mathlib.Core.Path.{◌≡◌, refl, sym, ap, ◌∙◌}
use mathlib.Core.Logic.{◌≢◌}
use mathlib.Core.Bool.{Bool, true, false, cond, not}
use mathlib.Core.List.{List}
use Prim.Native.Nat.{ℕ, ◌≤◌}
use native.Mathlib.Omega.{arith}
use Rattle.std.specs.Prelude.{Option, Some, None, Result, Ok, Err}
use lib.ListN.{length}
use lib.Dec.{ltb, eqb}
use borrow.Author.Tests.{eq-eqb, ne_eqb, eqb-true, lt-ltb, le-ltb, ltb-false}
use Rattle.answers.specs.Answers.{Outcome, outcome}
use Rattle.answers.specs.declared.Refusal.{Refusal}
use Rattle.answers.specs.declared.Refusal.TheVariants.{BadDay, BadLength, JumpOrLimit, NoPlan}
use Rattle.day.specs.Day.{Day, P, N, flight_at, valid, total}
use Rattle.day.specs.Plan.{Short, Picked, jump_or_limit, first_jump_or_limit}
use Rattle.day.proofs.Tests.{first_le}
use Rattle.quick_plan.specs.Quick.{quick_by, rates, quick}
use Rattle.quick_plan.specs.Loop.{without_line, row_to}
use Rattle.quick_plan.specs.Calls.{place_if, quick_check, on_quick, quick_plan}
use Rattle.quick_plan.proofs.Places.{some_place, no_place}
use Rattle.quick_plan.proofs.Rows.{row_to_quick}
use Rattle.quick_plan.proofs.Same.{any_closing, valid_rows}
use Rattle.quick_plan.proofs.Closing.{found_short, none_short}

-- ---- the check

module _ (d : Day) (h : List ℕ) where
  pub bad_day : valid d ≡ false → quick_check d h ≡ Err BadDay
  unfolding quick_check
  bad_day e = rw e

  module _ (v : valid d ≡ true) {n : ℕ} (size : n ≡ N d) where
    pub bad_length : length h ≢ n → quick_check d h ≡ Err (BadLength n)
    unfolding quick_check
    bad_length o = rw (v, size, ne_eqb (length h) (N d) (λ e. o (e ∙ sym size)))

    module _ (each : length h ≡ n) {found : Option ℕ} (e : found ≡ place_if (N d) (first_jump_or_limit d.flights)) where
      pub jump_or_limit_lem : {place : ℕ} → found ≡ Some place → quick_check d h ≡ Err (JumpOrLimit place)
      unfolding quick_check
      jump_or_limit_lem q =
          let w = some_place (sym e ∙ q) in
          rw (v, w.0, eq-eqb (length h) (N d) (each ∙ size), lt-ltb (first_jump_or_limit d.flights) (N d) w.1)

      pub applies : found ≡ None → quick_check d h ≡ Ok tt
      unfolding quick_check
      applies q = rw (v, eq-eqb (length h) (N d) (each ∙ size), le-ltb (first_jump_or_limit d.flights) (N d) (no_place (sym e ∙ q)))

-- what is known of a day and a row where a quick plan is made
pub record CanPlan (d : Day) (h : List ℕ) : Type 0 where
  pub good : valid d ≡ true
  pub each : length h ≡ N d
  pub plain : first_jump_or_limit d.flights ≡ N d

-- the check, with its three tests laid open
tests : (d : Day) (v l w : Bool) → Result (Unit {0}) Refusal
tests d v l w = cond (not v) (Err BadDay) (cond (not l) (Err (BadLength (N d))) (cond w (Err (JumpOrLimit (first_jump_or_limit d.flights))) (Ok tt)))

module _ (d : Day) (h : List ℕ) where
  opened : quick_check d h ≡ tests d (valid d) (eqb (length h) (N d)) (ltb (first_jump_or_limit d.flights) (N d))
  unfolding quick_check tests
  opened = refl

  few : first_jump_or_limit d.flights ≤ N d
  unfolding first_jump_or_limit
  few = first_le (N d) (λ i. jump_or_limit (flight_at d.flights i))

  can_at : (v l w : Bool) → valid d ≡ v → eqb (length h) (N d) ≡ l → ltb (first_jump_or_limit d.flights) (N d) ≡ w → tests d v l w ≡ Ok tt → CanPlan d h
  unfolding tests
  can_at true true false v l w e = record {
    good = v;
    each = eqb-true (length h) (N d) l;
    plain = omega (arith, few, ltb-false (first_jump_or_limit d.flights) (N d) w);
  }
  can_at true true true v l w e = absurd (let z : ◌≡◌ {A = ℕ} 0 1 = cc in omega (arith, z))
  can_at true false _ v l w e = absurd (let z : ◌≡◌ {A = ℕ} 0 1 = cc in omega (arith, z))
  can_at false _ _ v l w e = absurd (let z : ◌≡◌ {A = ℕ} 0 1 = cc in omega (arith, z))

  pub can_plan : quick_check d h ≡ Ok tt → CanPlan d h
  can_plan e = can_at _ _ _ refl refl refl (sym opened ∙ e)

-- two calls that test the same come to the same where they plan the same
pub same_outcome : (d : Day) (h : List ℕ) (one other : Outcome) → (CanPlan d h → one ≡ other) → on_quick (quick_check d h) h one ≡ on_quick (quick_check d h) h other
same_outcome d h one other same = by (quick_check d h) (can_plan d h)
  where
    by : (c : Result (Unit {0}) Refusal) → (c ≡ Ok tt → CanPlan d h) → on_quick c h one ≡ on_quick c h other
    by (Err answer) can = refl
    by (Ok _) can = same (can refl)

pub refused : (d : Day) (h : List ℕ) {answer : Refusal} → quick_check d h ≡ Err answer → quick_plan d h ≡ outcome (Err answer) h
unfolding quick_plan
refused d h e = rw e

-- the planner is handed the day without its line, and its row is that of the day
module _ (d : Day) {opened : Day} (same : opened ≡ without_line d) where
  pub same_count : N opened ≡ N d
  same_count = ap (λ e. N e) same

  pub same_periods : P opened ≡ P d
  same_periods = ap (λ e. P e) same

  pub made_open : (next : List ℕ → ℕ → ℕ → ℕ) (stop : ℕ) {x : List ℕ} → x ≡ row_to (without_line opened) (next opened.flights) stop
      → x ≡ row_to (without_line d) (next d.flights) stop
  made_open next stop made = rw same at made

module _ (d : Day) where
  -- the row made for all periods, whatever the closing number, is the plan
  pub made_quick : (next : ℕ → ℕ → ℕ) → valid d ≡ true → {x : List ℕ} → x ≡ row_to (without_line d) next (P d) → x ≡ quick_by d next
  made_quick next good made = made ∙ row_to_quick (without_line d) next (valid_rows d good) ∙ any_closing d next

  -- the day that passed the check is the day that was lent
  module _ (h : List ℕ) (e : quick_check d h ≡ Ok tt) {checked : Day} (same : checked ≡ d) where
    pub can_fill : length h ≡ N checked
    can_fill = rw same (can_plan d h e).each

    abbrev plan : Outcome
    plan = outcome (Ok (total d (quick d))) (quick d)

    pub no_plan_lem : {a b : ℕ} → Picked checked a b → quick_plan d h ≡ outcome (Err (NoPlan a b)) h
    unfolding quick_plan
    no_plan_lem p = rw e (let can = can_plan d h e in found_short d can.good can.plain (rates d) h plan (rw same at p))

    pub planned : ((a b : ℕ) → Short checked a b → ⊥) → {x : List ℕ} {t : ℕ} → x ≡ row_to (without_line checked) (rates checked) (P checked) → t ≡ total checked x
        → quick_plan d h ≡ outcome (Ok t) x
    unfolding quick_plan
    planned none made q =
        let can = can_plan d h e in
        rw (e, rw same at q, made_quick (rates d) can.good (rw same at made)) (none_short d can.good can.plain (rates d) h plan (rw same at none))
