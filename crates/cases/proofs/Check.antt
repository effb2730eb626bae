-- Tests that work out what a case says of prices, of a stretch and of the quick plan, and what it means that they pass.
-- Assumes nothing.
use mathlib.Core.Path.{◌≡◌, sym, ap, ◌∙◌}
use mathlib.Core.Logic.{inl, inr}
use mathlib.Core.Bool.{Bool, true, false, not, ◌&&◌, ◌||◌}
use mathlib.Core.List.{List, []}
use Prim.Native.Nat.{ℕ, zero, suc, ◌+◌, ◌-◌, ◌≤◌, ◌<◌}
use native.Mathlib.Nat.{not-le_of_lt}
use native.Mathlib.Omega.{arith}
use lib.ListN.{length, get_or}
use lib.Dec.{leb, ltb, eqb}
use borrow.Author.Tests.{leb-true, ltb-true, eqb-true, lt-ltb, le-leb}
use Rattle.assignment.specs.Rows.{row}
use Rattle.assignment.proofs.Rows.{row_at}
use Rattle.assignment.proofs.Tests.{lt?, and_true, true_and}
use Rattle.day.specs.Day.{Day, P, N, number, due, of_period, takes, counted, cost, latest, Window, hold, land, landings, total, all, valid}
use Rattle.day.specs.Plan.{Accepted, one_more, Saves, PricesSave, Picked, Short, must_land, room, first_break}
use Rattle.day.proofs.Tests.{all_at}
use Rattle.day.proofs.Valid.{valid_means}
use Rattle.day.proofs.Instance.{accepted_is_cheapest, short_has_no_plan}
use Rattle.day.proofs.Prices.{saves_price, saved_smallest, one_row}
use Rattle.legality.proofs.Meaning.{none_legal}
use Rattle.quick_plan.specs.Quick.{rates, quick}
use Rattle.quick_plan.specs.Loop.{row_to}
use Rattle.quick_plan.proofs.Plan.{operates_end, quick_land}
use Rattle.quick_plan.proofs.Rows.{row_to_quick}
use Rattle.cases.specs.Cases.{TotalIsLeast, PricesAre, NoneIsLegal, OnlyTwoLand}

-- the second test passes where the first does
abbrev implies : Bool → Bool → Bool
implies a b = not a || b

then : (a b : Bool) → implies a b ≡ true → a ≡ true → b ≡ true
then a b e t = rw t at e

-- ---- prices

module _ (d : Day) (holds prices : List ℕ) where
  -- a period that is not full has price 0
  unsold_free : ℕ → Bool
  unsold_free k = implies (ltb (landings d holds k) (takes d k)) (eqb (of_period prices k) 0)

  in_window : ℕ → ℕ → Bool
  in_window i k = leb (due d i) k && leb k (P d + 1) && leb k (latest d i)

  -- flight i's cost plus the price, where it lands and in period k
  abbrev own : ℕ → ℕ
  own i = cost d i (hold holds i) + of_period prices (land d holds i)

  abbrev in_period : ℕ → ℕ → ℕ
  in_period i k = cost d i (k - due d i) + of_period prices k

  least_at : ℕ → ℕ → Bool
  least_at i k = implies (in_window i k) (leb (own i) (in_period i k))

  unfoldable pub accepts : Bool
  unfolding unsold_free in_window least_at
  accepts =
      eqb (length holds) (N d) && eqb (first_break d holds) (N d) && eqb (length prices) (counted d) && all (counted d + 1) unsold_free
      && all (N d) (λ i. all (P d + 2) (least_at i))

  window_passes : (i k : ℕ) → Window d i k → in_window i k ≡ true
  unfolding in_window
  window_passes i k w =
      true_and (true_and (le-leb (due d i) k w.from) (le-leb k (P d + 1) w.closing)) (le-leb k (latest d i) w.limited)

  pub gets_yes : valid d ≡ true → accepts ≡ true → Accepted d holds prices
  unfolding accepts unsold_free least_at
  gets_yes v e =
      let leasts = and_true e in
      let unsolds = and_true leasts.0 in
      let pricings = and_true unsolds.0 in
      let holdings = and_true pricings.0 in
      record {
        legal = none_legal d holds (eqb-true (length holds) (N d) holdings.0) (eqb-true (first_break d holds) (N d) holdings.1);
        each = eqb-true (length prices) (counted d) pricings.1;
        unsold = λ k a b less. eqb-true (of_period prices k) 0 (then _ _ (all_at (counted d + 1) unsold_free unsolds.1 k (omega arith)) (lt-ltb _ _ less));
        least = λ i k l w.
            leb-true _ _ (then _ _ (all_at (P d + 2) (least_at i) (all_at (N d) _ leasts.1 i l) k (omega (arith, w.closing))) (window_passes i k w));
      }

  -- flight i may land in period k, and for less
  unfoldable pub cheaper_at : ℕ → ℕ → Bool
  unfolding in_window
  cheaper_at i k = ltb i (N d) && in_window i k && ltb (in_period i k) (own i)

  passes_window : (i k : ℕ) → in_window i k ≡ true → Window d i k
  unfolding in_window
  passes_window i k e =
      let limits = and_true e in
      let ends = and_true limits.0 in
      record {
        from = leb-true (due d i) k ends.0;
        closing = leb-true k (P d + 1) ends.1;
        limited = leb-true k (latest d i) limits.1;
      }

  pub gets_no : (i k : ℕ) → cheaper_at i k ≡ true → Accepted d holds prices → ⊥
  unfolding cheaper_at
  gets_no i k e said =
      let less = and_true e in
      let there = and_true less.0 in
      not-le_of_lt (ltb-true (in_period i k) (own i) less.1) (said.least i k (ltb-true i (N d) there.0) (passes_window i k there.1))

  -- period k has a price though it is not full
  unfoldable pub priced_at : ℕ → Bool
  priced_at k = leb 1 k && leb k (counted d) && ltb (landings d holds k) (takes d k) && ltb 0 (of_period prices k)

  pub gets_no_unsold : (k : ℕ) → priced_at k ≡ true → Accepted d holds prices → ⊥
  unfolding priced_at
  gets_no_unsold k e said =
      let priced = and_true e in
      let unsolds = and_true priced.0 in
      let periods = and_true unsolds.0 in
      let free = said.unsold k (leb-true 1 k periods.0) (leb-true k (counted d) periods.1) (ltb-true _ _ unsolds.1) in
      omega (arith, free, ltb-true 0 (of_period prices k) priced.1)

  pub least_total_lem : {t : ℕ} → valid d ≡ true → accepts ≡ true → total d holds ≡ t → TotalIsLeast d t holds prices
  least_total_lem v e sums =
      let said = gets_yes v e in
      record { cheapest = accepted_is_cheapest (valid_means v) said; comes_to = sums; shown = said }

-- ---- smallest prices

-- `plans` has a plan for each period that has a price
module _ (d : Day) (holds prices : List ℕ) (plans : List (List ℕ)) where
  -- the plan for period j + 1 is legal with one more landing there, and saves the price
  saves_at : ℕ → Bool
  saves_at j =
      let z = get_or plans j [] in
      eqb (length z) (N d) && eqb (first_break (one_more d (suc j)) z) (N d) && eqb (total d z + of_period prices (suc j)) (total d holds)

  unfoldable pub saves_all : Bool
  unfolding saves_at
  saves_all = all (counted d) saves_at

  saves_at_lem : valid d ≡ true → Accepted d holds prices → (j : ℕ) → saves_at j ≡ true → j < counted d → Saves d (total d holds) (suc j) (of_period prices (suc j))
  unfolding saves_at
  saves_at_lem v said j e to =
      let z = get_or plans j [] in
      let falls = and_true e in
      let legals = and_true falls.0 in
      saves_price (valid_means v) said (omega arith) to
      (none_legal (one_more d (suc j)) z (eqb-true (length z) (N d) legals.0) (eqb-true (first_break (one_more d (suc j)) z) (N d) legals.1))
      (eqb-true (total d z + of_period prices (suc j)) (total d holds) falls.1)

  pub smallest_prices_lem : valid d ≡ true → accepts d holds prices ≡ true → saves_all ≡ true → PricesAre d holds prices
  unfolding saves_all
  smallest_prices_lem v e saved =
      let said = gets_yes d holds prices v e in
      let best = saved_smallest (valid_means v) said (at_each said) in
      record { smallest = best; only = λ others row other. one_row other best; saves = at_each said }
    where
      at_each : Accepted d holds prices → PricesSave d (total d holds) prices
      at_each said zero from to = absurd (omega arith)
      at_each said (suc j) from to = saves_at_lem v said j (all_at (counted d) saves_at saved j to) to

-- ---- stretches

module _ (d : Day) (a b : ℕ) where
  -- a stretch is short only if its last period is at least b, and its first at most a
  not_before : ℕ → ℕ → Bool
  not_before last first = implies (ltb (room d first last) (must_land d first last)) (leb b last && leb first a)

  unfoldable pub picks : Bool
  unfolding not_before
  picks = leb 1 a && leb a b && leb b (counted d) && ltb (room d a b) (must_land d a b) && all (b + 1) (λ last. all (last + 1) (not_before last))

  -- so a short stretch that ends by b ends there
  short_by_lem : all (b + 1) (λ last. all (last + 1) (not_before last)) ≡ true → {first last : ℕ} → last ≤ b → Short d first last → (b ≤ last) × (first ≤ a)
  unfolding not_before
  short_by_lem e {first} {last} by s =
      let passed = all_at (last + 1) (not_before last) (all_at (b + 1) _ e last (omega arith)) first (omega (arith, s.stretch)) in
      let t = and_true {a = leb b last} (then _ _ passed (lt-ltb _ _ s.short)) in
      (leb-true b last t.0, leb-true first a t.1)

  pub picks_means : picks ≡ true → Picked d a b
  unfolding picks
  picks_means e =
      let others = and_true e in
      let shorts = and_true others.0 in
      let tos = and_true shorts.0 in
      let starts = and_true tos.0 in
      record {
        short = record {
          from = leb-true 1 a starts.0;
          stretch = leb-true a b starts.1;
          to = leb-true b (counted d) tos.1;
          short = ltb-true (room d a b) (must_land d a b) shorts.1;
        };
        smallest_last = λ first last s. elim (lt? b last) [ inl more ↦ omega arith | inr by ↦ (short_by_lem others.1 by s).0 ];
        largest_first = λ first s. (short_by_lem others.1 (omega arith) s).1;
      }

  pub no_plan_lem : valid d ≡ true → picks ≡ true → NoneIsLegal d a b
  no_plan_lem v e = record { picked = picks_means e; none = λ holds. short_has_no_plan (valid_means v) (picks_means e).short }

-- ---- the quick plan, by the row that is made landing by landing

module _ (d : Day) (holds : List ℕ) (v : valid d ≡ true) (made : row_to d (rates d) (P d) ≡ holds) where
  pub quick_holds_lem : quick d ≡ holds
  quick_holds_lem = sym (row_to_quick d (rates d) v) ∙ made

  -- who lands in period j + 1, as a row of tests
  unfoldable pub land_in : ℕ → ℕ → Bool
  land_in j i = eqb (land d holds i) (suc j)

  unfoldable pub one_of : ℕ → ℕ → ℕ → Bool
  one_of x y i = eqb (number d i) x || eqb (number d i) y

  pub two_land_lem : (j : ℕ) {x y : ℕ} → j < P d → row (N d) (land_in j) ≡ row (N d) (one_of x y) → OnlyTwoLand d (suc j) x y
  unfolding land_in one_of
  two_land_lem j {x} {y} in_day same = record {
    landing = λ i l.
        operates_end d (rates d) v j i l in_day ∙ ap (λ k. eqb k (suc j)) (sym (quick_land d (rates d) v i l) ∙ ap (λ h. land d h i) quick_holds_lem)
        ∙ sym (row_at (N d) (land_in j) i false l) ∙ ap (λ r. get_or r i false) same ∙ row_at (N d) (one_of x y) i false l;
  }
