-- The quick plan has no jumps, so that the delay that flights bring along changes nothing in it (#102).
-- Assumes nothing.
use Rattle.std.proofs.Common.{Ok}
use mathlib.Core.Path.{◌≡◌, sym, ap, ◌∙◌}
use mathlib.Core.Bool.{true, ◌&&◌}
use mathlib.Core.List.{List}
use Prim.Native.Nat.{ℕ, ◌+◌, ◌-◌, ◌*◌, ◌/◌, ◌<◌}
use native.Mathlib.Omega.{arith}
use lib.Dec.{lit<, leb, ltb, eqb}
use Rattle.assignment.specs.Sum.{gate, sum, count}
use Rattle.assignment.proofs.Sums.{sum_ext}
use Rattle.answers.specs.Answers.{Outcome, outcome}
use Rattle.day.specs.Day.{Day, day, P, N, width, due, rate, cost, latest_of, last_of, last, hold, land, flight_at, flight_count, total_of, total, valid}
use Rattle.day.specs.Flights.{SameBut}
use Rattle.day.specs.Plan.{must_land, room, first_of, jump_or_limit, first_jump_or_limit}
use Rattle.day.proofs.Costs.{cost_plain}
use Rattle.day.proofs.Tests.{first_same}
use Rattle.quick_plan.specs.NextCost.{next_cost}
use Rattle.quick_plan.specs.Quick.{before, ahead_of, left_over, rates, quick}
use Rattle.quick_plan.specs.Calls.{quick_check, short_from, if_room, quick_plan}
use Rattle.quick_plan.proofs.Applies.{no_jump}
use Rattle.quick_plan.proofs.Calls.{same_outcome}
use Rattle.quick_plan.proofs.Same.{SameOrder, quick_same}

-- two rows of flights that differ in column 6, late, alone
module _ (capacities : List ℕ) (closing : ℕ) {flights others : List ℕ} (same : SameBut 6 flights others) where
  abbrev d : Day
  d = day capacities flights closing

  abbrev e : Day
  e = day capacities others closing

  count_same : N d ≡ N e
  unfolding flight_count
  count_same = ap (λ n. n / width) same.as_many

  due_same : (i : ℕ) → i < N d → due d i ≡ due e i
  due_same i l = same.columns 1 i (lit< tt) (λ z. omega arith) l

  rate_same : (i : ℕ) → i < N d → rate d i ≡ rate e i
  rate_same i l = same.columns 2 i (lit< tt) (λ z. omega arith) l

  -- ---- the plan: it reads due periods and rates alone

  order_same : SameOrder d e (rates d) (rates e)
  unfolding next_cost before ahead_of
  order_same = record {
    count = count_same;
    dues = due_same;
    order = λ j k i p a b. rw (rate_same k a, rate_same i b, due_same k a, due_same i b);
  }

  -- ---- the answer

  first_is_same : first_jump_or_limit flights ≡ first_jump_or_limit others
  unfolding first_jump_or_limit jump_or_limit flight_at
  first_is_same =
      first_same (N d) (λ i. jump_or_limit (flight_at flights i)) (λ i. jump_or_limit (flight_at others i)) (λ i l. rw (same.columns 4 i (lit< tt) (λ z. omega arith) l, same.columns 5 i (lit< tt) (λ z. omega arith) l))
      ∙ ap (λ n. first_of n (λ i. jump_or_limit (flight_at others i))) count_same

  total_same : first_jump_or_limit flights ≡ N d → (holds : List ℕ) → total d holds ≡ total e holds
  unfolding total_of
  total_same applies holds =
      let applies_too : first_jump_or_limit others ≡ N e = sym first_is_same ∙ applies ∙ count_same in
      sum_ext (N d) (λ i. cost d i (hold holds i)) (λ i. cost e i (hold holds i)) (λ i l.
      cost_plain d i (hold holds i) (no_jump d applies i l)
      ∙ ap (λ r. r * hold holds i) (rate_same i l)
      ∙ sym (cost_plain e i (hold holds i) (no_jump e applies_too i (omega (arith, count_same)))))
      ∙ ap (λ n. sum n (λ i. cost e i (hold holds i))) count_same

  plan_same : quick d ≡ quick e
  plan_same = quick_same capacities flights others closing closing (rates d) (rates e) order_same

  -- ---- answer 9

  left_same : left_over d (rates d) ≡ left_over e (rates e)
  unfolding left_over count
  left_same =
      sum_ext (N d) (λ i. gate (eqb (land d (quick d) i) (P d + 1)) 1) (λ i. gate (eqb (land e (quick e) i) (P d + 1)) 1)
      (λ i l. rw (due_same i l, plan_same))
      ∙ ap (λ n. sum n (λ i. gate (eqb (land e (quick e) i) (P d + 1)) 1)) count_same

  must_same : (a b : ℕ) → must_land d a b ≡ must_land e a b
  unfolding must_land last_of latest_of flight_at
  must_same a b =
      sum_ext (N d) (λ i. gate (leb a (due d i) && leb (last d i) b) 1) (λ i. gate (leb a (due e i) && leb (last e i) b) 1)
      (λ i l. rw (due_same i l, same.columns 5 i (lit< tt) (λ z. omega arith) l))
      ∙ ap (λ n. sum n (λ i. gate (leb a (due e i) && leb (last e i) b) 1)) count_same

  from_same : (b : ℕ) → short_from d b ≡ short_from e b
  unfolding short_from room
  from_same b = ap (λ k. b - k) (first_same b (λ k. ltb (room d (b - k) b) (must_land d (b - k) b)) (λ k. ltb (room e (b - k) b) (must_land e (b - k) b)) (λ k l.
      ap (ltb (room d (b - k) b)) (must_same (b - k) b)))

  check_same : valid d ≡ true → valid e ≡ true → (holds : List ℕ) → quick_check d holds ≡ quick_check e holds
  unfolding quick_check
  check_same v w holds = rw (v, w, first_is_same, count_same)

  -- For days that differ in their lates alone the call answers the same and leaves the same row: the plan reads due periods and rates, and
  -- where no flight has a jump a hold costs its periods; and which flights must land in a stretch is read off due periods and limits.
  pub late_changes_nothing : valid d ≡ true → valid e ≡ true → (holds : List ℕ) → quick_plan d holds ≡ quick_plan e holds
  unfolding quick_plan
  late_changes_nothing v w holds =
      rw (check_same v w holds) (same_outcome e holds (if_room d (rates d) holds (planned d)) (if_room e (rates e) holds (planned e)) (λ can.
      let applies : first_jump_or_limit flights ≡ N d = first_is_same ∙ can.plain ∙ sym count_same in
      rw (left_same, from_same (P d + 1), total_same applies (quick d), plan_same)))
    where
      planned : Day → Outcome
      planned d = outcome (Ok (total d (quick d))) (quick d)
