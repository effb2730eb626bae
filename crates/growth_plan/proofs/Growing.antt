-- Where there is a legal plan, the growing plan is legal, and no legal plan costs less in millionths; and without growth it is the quick plan.
-- Assumes nothing.
use mathlib.Core.Path.{◌≡◌, refl, sym, ap, ◌∙◌}
use mathlib.Core.Bool.{true}
use mathlib.Core.List.{List}
use Prim.Native.Nat.{ℕ, suc, ◌+◌, ◌-◌, ◌*◌, ◌≤◌, ◌<◌}
use native.Mathlib.Omega.{arith}
use native.Mathlib.Nat.{mul_assoc, mul-one, mul_right_comm}
use lib.Dec.{lit<}
use Rattle.assignment.proofs.Sums.{sum_ext, sum_same, sum_times}
use Rattle.day.specs.Day.{Day, P, N, due, rate, cost, hold, land, total_of, total, valid}
use Rattle.day.specs.Plan.{Legal, HasPlan, first_jump_or_limit}
use Rattle.day.proofs.Costs.{cost_plain}
use Rattle.day.proofs.Valid.{valid_means}
use Rattle.growth.specs.Growth.{growth_fits, factor, further_cost, growth_cost}
use Rattle.growth.proofs.Laws.{factor_next, factor_plain}
use Rattle.quick_plan.specs.NextCost.{next_cost}
use Rattle.quick_plan.specs.Quick.{ahead, rates, quick}
use Rattle.quick_plan.proofs.Applies.{no_jump}
use Rattle.quick_plan.proofs.NextCosts.{growth_within}
use Rattle.quick_plan.proofs.Same.{SameOrder, quick_same}
use Rattle.quick_plan.proofs.Plan.{quick_legal}
use Rattle.quick_plan.proofs.Cheapest.{paid, spent, Regular, plan_least}
use Rattle.quick_plan.proofs.Closing.{left_exactly}
use Rattle.growth_plan.specs.Growing.{growing, growing_quick, growing_total}
use Rattle.growth_plan.proofs.Scaled.{ahead_scaled}

-- ---- the order

-- of a flight that is due, one period more costs (10 + a)/10 of the one before
further_next : (a rate t : ℕ) → t < 6 → further_cost a rate (suc t) * 10 ≡ further_cost a rate t * (10 + a)
unfolding further_cost
further_next a rate t l = mul_assoc rate (factor a (suc t)) 10 ∙ ap (λ x. rate * x) (factor_next a t l) ∙ sym (mul_assoc rate (factor a t) (10 + a))

module _ (a : ℕ) (d : Day) (within : growth_fits a (P d) ≡ true) where
  dearer : (j i : ℕ) → j < P d → 1 ≤ due d i → due d i ≤ j → growing a d (suc j) i * 10 ≡ growing a d j i * (10 + a)
  unfolding next_cost
  dearer j i p from by =
      let up : suc j - due d i ≡ suc (j - due d i) = omega arith in
      rw up (further_next a (rate d i) (j - due d i) (omega (arith, (growth_within a (P d) within).1)))

  pub growing_regular : valid d ≡ true → Regular d (growing a d)
  growing_regular v j k i p l m b c t =
      let from : (i : ℕ) → i < N d → 1 ≤ due d i = λ i l. ((valid_means v).flight i l).due_from in
      let e : ahead d (growing a d j) k i ≡ ahead d (growing a d (suc j)) k i
      = ahead_scaled 10 (10 + a) (lit< tt) (omega arith) d.flights (growing a d j) (growing a d (suc j)) k i (dearer j k p (from k l) b) (dearer j i p (from i m) c) in
      rw e at t

-- ---- the cost

-- the total in millionths is what the flights pay at the growing next cost
total_spent : (a : ℕ) (d : Day) (h : List ℕ) → growing_total a d.flights h ≡ spent d (growing a d) h
unfolding growing_total spent growth_cost next_cost
total_spent a d h = sum_ext (N d) (λ i. growth_cost a (rate d i) (hold h i)) (λ i. paid d (growing a d) i (hold h i)) (λ i l.
    sum_ext (hold h i) (further_cost a (rate d i)) (λ t. growing a d (due d i + t) i) (λ t _.
    let back : t ≡ due d i + t - due d i = omega arith in ap (further_cost a (rate d i)) back))

-- ---- the plan

module _ (a : ℕ) (d : Day) (v : valid d ≡ true) (plain : first_jump_or_limit d.flights ≡ N d) where
  pub growing_legal : HasPlan d → Legal d (growing_quick a d)
  growing_legal some = quick_legal d (growing a d) v plain ((left_exactly d v plain (growing a d)).0 some)

  -- The order of the flights that wait stays from period to period, since all their next costs grow by the same factor; so the quick plan's
  -- proof holds of this next cost too, and what the flights pay is the total in millionths.
  pub growing_least : growth_fits a (P d) ≡ true → (other : List ℕ) → Legal d other
      → growing_total a d.flights (growing_quick a d) ≤ growing_total a d.flights other
  growing_least within other legal =
      omega (
        arith,
        total_spent a d (growing_quick a d),
        total_spent a d other,
        plan_least d (growing a d) v (growing_regular a d within v) other legal,
      )

-- ---- without growth

further_plain : (rate t : ℕ) → t ≤ 6 → further_cost 0 rate t ≡ rate * 1000000
unfolding further_cost
further_plain rate t l = ap (λ x. rate * x) (factor_plain t l)

module _ (d : Day) (short : P d ≤ 6) where
  zero_order : SameOrder d d (rates d) (growing 0 d)
  unfolding next_cost
  zero_order = record {
    count = refl;
    dues = λ i l. refl;
    order = λ j k i p l m. ahead_scaled 1 1000000 (lit< tt) (lit< tt) d.flights (rates d j) (growing 0 d j) k i (plain j k p) (plain j i p);
  }
    where
      plain : (j i : ℕ) → j ≤ P d → growing 0 d j i * 1 ≡ rates d j i * 1000000
      plain j i p = mul-one (growing 0 d j i) ∙ further_plain (rate d i) (j - due d i) (omega arith)

  pub zero_holds : growing_quick 0 d ≡ quick d
  zero_holds = sym (quick_same d.capacities d.flights d.flights d.closing d.closing (rates d) (growing 0 d) zero_order)

  -- the total of a row of landings up to the closing period, in millionths
  pub zero_total : valid d ≡ true → first_jump_or_limit d.flights ≡ N d → (h : List ℕ) → ((i : ℕ) → i < N d → land d h i ≤ P d + 1)
      → growing_total 0 d.flights h ≡ total d h * 1000000
  unfolding growing_total total_of growth_cost
  zero_total v plain h to =
      sum_ext (N d) (λ i. growth_cost 0 (rate d i) (hold h i)) (λ i. cost d i (hold h i) * 1000000) each
      ∙ sum_times (N d) 1000000 (λ i. cost d i (hold h i))
    where
      short_hold : (i : ℕ) → i < N d → hold h i ≤ 6
      short_hold i l = omega (arith, to i l, ((valid_means v).flight i l).due_from)

      each : (i : ℕ) → i < N d → growth_cost 0 (rate d i) (hold h i) ≡ cost d i (hold h i) * 1000000
      each i l =
          sum_ext (hold h i) (further_cost 0 (rate d i)) (λ t. rate d i * 1000000) (λ t b. further_plain (rate d i) t (omega (arith, short_hold i l)))
          ∙ sum_same (hold h i) (rate d i * 1000000)
          ∙ mul_right_comm (rate d i) 1000000 (hold h i)
          ∙ ap (λ x. x * 1000000) (sym (cost_plain d i (hold h i) (no_jump d plain i l)))
