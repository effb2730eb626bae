-- The laws of the day check: what it says of a day that passes, and the other way round.
-- Assumes nothing.
use mathlib.Core.Path.{◌≡◌, refl}
use mathlib.Core.Logic.{◌⊎◌, ◌≢◌, inl, inr}
use mathlib.Core.Bool.{Bool, true, false, ◌||◌}
use Prim.Native.Nat.{ℕ, ◌*◌, ◌≤◌, ◌<◌}
use lib.ListN.{length, get_or}
use lib.Dec.{leb}
use borrow.Author.Tests.{le-leb, eq-eqb, ne_eqb, leb-true, eqb-true, eqb-false, not-true}
use Rattle.assignment.proofs.Tests.{and_true, true_and}
use Rattle.day.specs.Day.{Day, P, N, unlimited, most_periods, most_flights, number, due, rate, after, jump, late, limit, missing, inside, flight_at, flight_fits, in_range, is_new, valid, width}
use Rattle.day.specs.Valid.{InRange, ValidFlights, Valid}
use Rattle.day.proofs.Tests.{all_at, all_from}

-- ---- what a day that passes is

pub inside_means : (a b x : ℕ) → inside a b x ≡ true → (a ≤ x) × (x ≤ b)
inside_means a b x e = let t = and_true e in (leb-true a x t.0, leb-true x b t.1)

or_true : (a b : Bool) → (a || b) ≡ true → (a ≡ true) ⊎ (b ≡ true)
or_true true b e = inl refl
or_true false b e = inr e

pub range_means : (d : Day) (i : ℕ) → in_range (P d) d.flights i ≡ true → InRange (P d) d.flights i
unfolding flight_fits flight_at
range_means d i e =
    let lates = and_true e in
    let limits = and_true lates.0 in
    let jumps = and_true limits.0 in
    let afters = and_true jumps.0 in
    let rates = and_true afters.0 in
    let dues = and_true rates.0 in
    let number_in = inside_means 1 9999 (number d i) dues.0 in
    let due_in = inside_means 1 (P d) (due d i) dues.1 in
    let rate_in = inside_means 1 10000 (rate d i) rates.1 in
    record {
      number_from = number_in.0;
      number_to = number_in.1;
      due_from = due_in.0;
      due_to = due_in.1;
      rate_from = rate_in.0;
      rate_to = rate_in.1;
      after_to = leb-true (after d i) 96 afters.1;
      jump_to = leb-true (jump d i) 1000000 jumps.1;
      limit_to = elim (or_true (leb (limit d i) 96) (missing (limit d i)) limits.1) [
        | inl t ↦ inl (leb-true (limit d i) 96 t)
        | inr t ↦ inr (eqb-true (limit d i) 255 t)
      ];
      late_to = leb-true (late d i) 255 lates.1;
    }

pub valid_means : {d : Day} → valid d ≡ true → Valid d
unfolding valid is_new
valid_means {d} e =
    let numbers = and_true e in
    let ranges = and_true numbers.0 in
    let caps = and_true ranges.0 in
    let lines = and_true caps.0 in
    let few = and_true lines.0 in
    let wholes = and_true few.0 in
    let periods = inside_means 1 most_periods (P d) wholes.0 in
    record {
      periods_from = periods.0;
      periods_to = periods.1;
      whole = eqb-true (length d.flights) (N d * width) wholes.1;
      flights_to = leb-true (N d) most_flights few.1;
      closing_to = leb-true d.closing unlimited lines.1;
      capacity_to = λ k l. leb-true _ 255 (all_at (P d) _ caps.1 k l);
      flight = λ i l. range_means d i (all_at (N d) _ ranges.1 i l);
      distinct = λ i j l b. eqb-false _ _ (not-true _ (all_at i _ (all_at (N d) _ numbers.1 i l) j b));
    }

pub valid_flights : {d : Day} → Valid d → ValidFlights (P d) d.flights
valid_flights v = record { periods_to = v.periods_to; whole = v.whole; flights_to = v.flights_to; flight = v.flight }

-- ---- and the other way round: a day that is so passes, so that the record says just what the test does

inside_from : (a b x : ℕ) → a ≤ x → x ≤ b → inside a b x ≡ true
inside_from a b x low high = true_and (le-leb a x low) (le-leb x b high)

or_right : (a b : Bool) → b ≡ true → (a || b) ≡ true
or_right true b e = refl
or_right false b e = e

pub range_from : (d : Day) (i : ℕ) → InRange (P d) d.flights i → in_range (P d) d.flights i ≡ true
unfolding flight_fits flight_at
range_from d i r =
    let number_in = inside_from 1 9999 (number d i) r.number_from r.number_to in
    let due_in = inside_from 1 (P d) (due d i) r.due_from r.due_to in
    let rate_in = inside_from 1 10000 (rate d i) r.rate_from r.rate_to in
    let after_in = le-leb (after d i) 96 r.after_to in
    let jump_in = le-leb (jump d i) 1000000 r.jump_to in
    let limit_in : (leb (limit d i) 96 || missing (limit d i)) ≡ true = elim r.limit_to [
      | inl l ↦ rw (le-leb (limit d i) 96 l)
      | inr e ↦ or_right (leb (limit d i) 96) (missing (limit d i)) (eq-eqb (limit d i) 255 e)
    ] in
    let late_in = le-leb (late d i) 255 r.late_to in
    true_and (true_and (true_and (true_and (true_and (true_and number_in due_in) rate_in) after_in) jump_in) limit_in) late_in

-- no lower table place has the flight's number
new_from : (d : Day) (i : ℕ) → ((j : ℕ) → j < i → number d j ≢ number d i) → is_new d.flights i ≡ true
unfolding is_new
new_from d i differ = all_from i _ (λ j l. rw (ne_eqb (number d j) (number d i) (differ j l)))

pub means_valid : {d : Day} → Valid d → valid d ≡ true
unfolding valid
means_valid {d} v =
    let periods = inside_from 1 most_periods (P d) v.periods_from v.periods_to in
    let whole = eq-eqb (length d.flights) (N d * width) v.whole in
    let few = le-leb (N d) most_flights v.flights_to in
    let line = le-leb d.closing unlimited v.closing_to in
    let caps = all_from (P d) (λ k. leb (get_or d.capacities k 0) 255) (λ k l. le-leb (get_or d.capacities k 0) 255 (v.capacity_to k l)) in
    let ranges = all_from (N d) (in_range (P d) d.flights) (λ i l. range_from d i (v.flight i l)) in
    let numbers = all_from (N d) (is_new d.flights) (λ i l. new_from d i (λ j b. v.distinct i j l b)) in
    true_and (true_and (true_and (true_and (true_and (true_and periods whole) few) line) caps) ranges) numbers
