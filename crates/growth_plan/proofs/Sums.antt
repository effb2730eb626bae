-- The sum in millionths, flight by flight.
-- Assumes nothing.
use mathlib.Core.Path.{◌≡◌, refl, ap, ◌∙◌}
use mathlib.Core.Bool.{true}
use mathlib.Core.List.{List}
use Prim.Native.Nat.{ℕ, ◌+◌, ◌*◌, ◌≤◌, ◌<◌}
use native.Mathlib.Omega.{arith}
use native.Mathlib.Numerals.{add-one}
use lib.ListN.{length}
use Rattle.assignment.specs.Sum.{sum}
use Rattle.assignment.proofs.Sums.{sum_most}
use Rattle.day.specs.Day.{Day, P, N, width, flight_count, rate_of, hold, land, valid}
use Rattle.day.proofs.Flights.{there}
use Rattle.day.proofs.Valid.{valid_means}
use Rattle.growth.specs.Growth.{growth_cost}
use Rattle.growth.proofs.Laws.{growth_low}
use Rattle.growth_plan.specs.Growing.{growing_total}
use Rattle.growth_plan.specs.Loop.{CanSum, Summed}

-- a row of landings up to the closing period can be summed, on a day of at most 6 periods
pub can_sum : (a : ℕ) (d : Day) (h : List ℕ) → a ≤ 40 → P d ≤ 6 → valid d ≡ true → length h ≡ N d → ((i : ℕ) → i < N d → land d h i ≤ P d + 1)
    → CanSum a d.flights h
can_sum a d h g p v each to = record {
  grows = g;
  each = each;
  few = (valid_means v).flights_to;
  rates = λ i l. ((valid_means v).flight i l).rate_to;
  short = λ i l. omega (arith, to i l, ((valid_means v).flight i l).due_from);
}

-- no sum of so many flights is greater
sum_low : (a : ℕ) (flights h : List ℕ) → CanSum a flights h → (i : ℕ) → i ≤ flight_count flights
    → sum i (λ k. growth_cost a (rate_of flights k) (hold h k)) ≤ 4999680000000000
sum_low a flights h can i l =
    omega (
      arith,
      sum_most i 39060000000000 (λ k. growth_cost a (rate_of flights k) (hold h k))
          (λ k b. growth_low a (rate_of flights k) (hold h k) can.grows (can.rates k (omega arith)) (can.short k (omega arith))),
      can.few,
    )

pub total_low : (a : ℕ) (flights h : List ℕ) → CanSum a flights h → growing_total a flights h ≤ 4999680000000000
unfolding growing_total
total_low a flights h can = sum_low a flights h can (flight_count flights) (omega arith)

pub summed_start : (a : ℕ) {flights h : List ℕ} → CanSum a flights h → Summed a flights h 0 0
unfolding sum
summed_start a can = record { can = can; upto = omega arith; costs = refl }

module _ {a : ℕ} {flights h : List ℕ} {s i : ℕ} (so : Summed a flights h s i) (l : i < length h) where
  pub summed_there : (i + 1) * width ≤ length flights
  summed_there = there flights i (omega (arith, so.can.each))

  pub summed_can : (a ≤ 40) × (rate_of flights i ≤ 10000) × (hold h i ≤ 6)
  summed_can = let o : i < flight_count flights = omega (arith, so.can.each) in (so.can.grows, so.can.rates i o, so.can.short i o)

  module _ {rate cost : ℕ} (er : rate ≡ rate_of flights i) (ec : cost ≡ growth_cost a rate (hold h i)) where
    pub summed_next : Summed a flights h (s + cost) (i + 1)
    unfolding sum
    summed_next = record { can = so.can; upto = omega (arith, so.can.each); costs = rw (add-one, so.costs, ec, er) }

    pub summed_fits : s + cost ≤ 4999680000000000
    summed_fits = omega (arith, summed_next.costs, sum_low a flights h so.can (i + 1) (omega (arith, so.can.each)))

pub summed_end : {a : ℕ} {flights h : List ℕ} {s i : ℕ} → Summed a flights h s i → length h ≤ i → s ≡ growing_total a flights h
unfolding growing_total
summed_end {a = a} {flights = flights} {h = h} {i = i} so g =
    let q : i ≡ flight_count flights = omega (arith, so.upto, so.can.each) in
    so.costs ∙ ap (λ n. sum n (λ k. growth_cost a (rate_of flights k) (hold h k))) q
