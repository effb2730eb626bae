-- The full plan's refusals in their order, and its two outcomes.
-- Assumes nothing.
use Rattle.std.proofs.Common.{Result, Ok, Err}
use mathlib.Core.Path.{◌≡◌, refl, sym, ap, ◌∙◌}
use mathlib.Core.Logic.{inl, inr}
use mathlib.Core.Bool.{true, false}
use mathlib.Core.List.{List, append-nil}
use Prim.Native.Nat.{ℕ, ◌+◌, ◌-◌, ◌≤◌}
use native.Mathlib.Omega.{arith}
use lib.ListN.{length}
use lib.Seq.{length-take-le}
use lib.Dec.{leb}
use borrow.Author.Tests.{eq-eqb, ne_eqb}
use Rattle.assignment.specs.Sum.{gate}
use Rattle.assignment.proofs.Tests.{lt?}
use Rattle.assignment.proofs.Sums.{sum_ext}
use Rattle.answers.specs.declared.Refusal.{Refusal}
use Rattle.answers.specs.declared.Refusal.TheVariants.{BadDay, BadLength, NoPlan}
use Rattle.day.specs.Day.{Day, day, unlimited, N, takes_of, counted, valid}
use Rattle.day.specs.Plan.{must_land, room, Short, Picked}
use Rattle.day.proofs.Costs.{takes_in, counted_line, counted_open, counted_from}
use Rattle.day.proofs.Curfew.{open_valid, with_accepted, with_saves, with_smallest}
use Rattle.day.proofs.Existence.{plan_exactly}
use Rattle.day.proofs.Instance.{accepted_is_cheapest}
use Rattle.day.proofs.Valid.{valid_means}
use Rattle.full_plan.specs.FullPlan.{BestPlan, Solved, plan, none, Refused, FullPlan}
use Rattle.full_plan.specs.Inserted.{CanPlan, Made}

refused : {a : Refusal} {h p : List ℕ} → Refused a (Err a) h p h p
refused = record { refusal_is = refl; same_holds = refl; same_prices = refl }

module _ (d : Day) (h p : List ℕ) where
  pub bad_day : valid d ≡ false → FullPlan d (Err BadDay) h p h p
  unfolding FullPlan
  bad_day e = rw e refused

  module _ (good : valid d ≡ true) {n : ℕ} (count : n ≡ N d) where
    pub bad_holds : (length h ≡ n → ⊥) → FullPlan d (Err (BadLength n)) h p h p
    unfolding FullPlan
    bad_holds e = rw (good, ne_eqb (length h) (N d) (λ f. e (f ∙ sym count)), count) refused

    module _ (holds : length h ≡ n) {m : ℕ} (priced : m ≡ counted d) where
      pub bad_prices : (length p ≡ m → ⊥) → FullPlan d (Err (BadLength m)) h p h p
      unfolding FullPlan
      bad_prices e = rw (good, eq-eqb (length h) (N d) (holds ∙ count), ne_eqb (length p) (counted d) (λ f. e (f ∙ sym priced)), priced) refused

      module _ (prices : length p ≡ m) where
        pub solved : {a : Result ℕ Refusal} {h' p' : List ℕ} → Solved d a h p h' p' → FullPlan d a h p h' p'
        unfolding FullPlan
        solved s = rw (good, eq-eqb (length h) (N d) (holds ∙ count), eq-eqb (length p) (counted d) (prices ∙ priced)) s

        pub found_none : {a b : ℕ} → Picked d a b → FullPlan d (Err (NoPlan a b)) h p h p
        found_none {a} {b} picked =
            solved (none (record { first = a; last = b; picked = picked; stretch_is = refl; same_holds = refl; same_prices = refl }))

-- ---- the plan of the day without a closing line

-- the planner is handed the day without its line, and speaks of the day of its rows
pub open_again : (d : Day) {opened : Day} → opened ≡ day d.capacities d.flights unlimited
    → day opened.capacities opened.flights unlimited ≡ day d.capacities d.flights unlimited
open_again d same = ap (λ e. day e.capacities e.flights unlimited) same

-- a stretch that is short without the line ends by P, and is as short with it
short_with : (c f : List ℕ) (closing : ℕ) {a b : ℕ} → Short (day c f unlimited) a b → Short (day c f closing) a b
unfolding room must_land
short_with c f closing {a} {b} s =
    let to : b ≤ length c = omega (arith, s.to, counted_open (length c) unlimited (omega arith)) in
    record {
      from = s.from;
      stretch = s.stretch;
      to = omega (arith, counted_from (length c) closing);
      short = omega (
        arith,
        s.short,
        sum_ext (b + 1) (λ k. gate (leb a k) (takes_of c unlimited k)) (λ k. gate (leb a k) (takes_of c closing k))
            (λ k l. ap (gate (leb a k)) (takes_in c unlimited k (omega arith) ∙ sym (takes_in c closing k (omega arith)))),
      );
    }

module _ (c f : List ℕ) (closing : ℕ) (h p : List ℕ) where
  abbrev d : Day
  d = day c f closing

  module _ (good : valid d ≡ true) {n : ℕ} (count : n ≡ N d) (holds : length h ≡ n) {m : ℕ} (priced : m ≡ counted d) (prices : length p ≡ m)
      (clear : (a b : ℕ) → Short d a b → ⊥) where
    pub can_plan : CanPlan (day c f unlimited) h p
    can_plan = record {
      can = record {
        none_short = λ a b s. clear a b (short_with c f closing s);
        holds_row = holds ∙ count;
        prices_row = length-take-le (length c) p (omega (arith, counted_from (length c) closing));
      };
      from = omega (arith, counted_from (length c) closing);
    }

    -- with a line the prices are those without it and the added 0, else it is the same day
    best_made : {t : ℕ} {h' p' : List ℕ} → Made (day c f unlimited) t h' p p' → BestPlan d (Ok t) h' p'
    best_made {t} {h'} {p'} made = elim (lt? closing unlimited) [
      | inl line ↦
          let one : length p - length c ≡ 1 = omega (arith, counted_line (length c) closing line) in
          let row = rw one at made.behind in
          let legal = ((plan_exactly (valid_means good)).1 clear).legal in
          rw row (record {
            total_is = ap Ok made.planned.is_total;
            cheapest = accepted_is_cheapest (valid_means good) (with_accepted c f closing line (valid_means good) made.planned.smallest made.planned.saves legal);
            smallest = with_smallest c f closing line (valid_means good) made.planned.smallest made.planned.saves legal;
            saves = with_saves c f closing line (valid_means good) made.planned.smallest made.planned.saves legal;
          })
      | inr open_end ↦
          let same : closing ≡ unlimited = omega (arith, (valid_means good).closing_to) in
          let zero_more : length p - length c ≡ 0 = omega (arith, counted_open (length c) closing open_end) in
          let row : p' ≡ made.front = rw zero_more at made.behind ∙ append-nil made.front in
          rw (row, same) (record {
            total_is = ap Ok made.planned.is_total;
            cheapest = accepted_is_cheapest (open_valid (valid_means good)) made.planned.smallest.accepted;
            smallest = made.planned.smallest;
            saves = made.planned.saves;
          })
    ]

    pub found_plan : {t : ℕ} {h' p' : List ℕ} → Made (day c f unlimited) t h' p p' → FullPlan d (Ok t) h p h' p'
    found_plan made = solved d h p good count holds priced prices (plan (best_made made))
