-- The loops of `least_price` and `price_closed`.
-- Assumes nothing.
use mathlib.Core.Path.{◌≡◌, refl, sym, ap, ◌∙◌}
use mathlib.Core.Logic.{◌⊎◌, inl, inr, ◌≢◌}
use mathlib.Core.List.{List}
use Prim.Native.Nat.{ℕ, ◌+◌, ◌-◌, ◌≤◌, ◌<◌}
use native.Mathlib.Omega.{arith}
use lib.ListN.{get_or, length, set, length-set}
use Rattle.assignment.specs.Moves.{Moved}
use Rattle.assignment.proofs.Tests.{eq?, lt?}
use Rattle.day.specs.declared.Flight.{Flight}
use Rattle.day.specs.Day.{Day, P, N, most_periods, column, flight_at, flight_count, of_period, hold_cost, latest_of, cost, capacity, hold, land}
use Rattle.day.proofs.Flights.{due_read}
use Rattle.day.proofs.Costs.{period_in, period_out, period_moved}
use Rattle.closed_prices.specs.ClosedPrices.{paid, cost_in, Reaches, CanPay, Shortfall, Sets, LeastPrice, CanPrice}

-- ---- shortfall

module _ {p : ℕ} {flights holds prices : List ℕ} {i k : ℕ} {f : Flight} (c : CanPay p flights holds prices k) (l : i < flight_count flights) (is : f ≡ flight_at flights i) where
  due_is : f.due ≡ column 1 flights i
  due_is = due_read f flights i is

  pub out_early : k < f.due → Shortfall p flights holds prices i k 0
  out_early b = record { high = λ w. absurd (omega (arith, due_is, w.from)); low = inl refl }

  module _ {last : ℕ} (last_is : last ≡ latest_of p f) where
    latest : last ≡ latest_of p (flight_at flights i)
    latest = last_is ∙ ap (latest_of p) is

    pub out_late : last < k → Shortfall p flights holds prices i k 0
    out_late b = record { high = λ w. absurd (omega (arith, latest, w.limited)); low = inl refl }

    module _ {a q b : ℕ} (from : f.due ≤ k) (to : k ≤ last) (a-is : a ≡ hold_cost f (hold holds i)) (q-is : q ≡ of_period prices (f.due + hold holds i)) (b-is : b ≡ hold_cost f (k - f.due)) where
      pays_is : a + q ≡ paid flights holds prices i
      pays_is = omega (arith, a-is ∙ ap (λ g. hold_cost g (hold holds i)) is, q-is ∙ ap (λ z. of_period prices (z + hold holds i)) due_is)

      costs_is : b ≡ cost_in flights i k
      costs_is = b-is ∙ ap (λ z. hold_cost f (k - z)) due_is ∙ ap (λ g. hold_cost g (k - column 1 flights i)) is

      pub pay_rest : Shortfall p flights holds prices i k ((a + q) - b)
      pay_rest = record { high = λ _. omega (arith, pays_is, costs_is); low = low }
        where
          low : ((a + q) - b ≡ 0) ⊎ (Reaches p flights i k × (cost_in flights i k + ((a + q) - b) ≡ paid flights holds prices i))
          low = elim (lt? b (a + q)) [
            | inl more ↦ inr (record { from = omega (arith, due_is); limited = omega (arith, latest) }, omega (arith, pays_is, costs_is))
            | inr less ↦ inl (omega arith)
          ]

-- ---- least_price

-- the price of k is the least for the flights before i
pub record Pricing (p : ℕ) (flights holds prices : List ℕ) (k price i : ℕ) : Type 0 where
  pub high : (o : ℕ) → o < i → Reaches p flights o k → paid flights holds prices o ≤ cost_in flights o k + price
  pub low : (price ≡ 0) ⊎ Sets p flights holds prices i k price

-- ---- price_closed

module _ {p : ℕ} {flights holds prices : List ℕ} (prices₂ : List ℕ)
    (same : (i : ℕ) → i < flight_count flights → paid flights holds prices₂ i ≡ paid flights holds prices i) where
  -- only what the flights pay matters
  least_ext : {k r : ℕ} → LeastPrice p flights holds prices₂ k r → LeastPrice p flights holds prices k r
  least_ext h = record {
    high = λ i l w. omega (arith, h.high i l w, same i l);
    low = elim h.low [
      | inl e ↦ inl e
      | inr a ↦ inr (record { by = a.by; who = a.who; reaches = a.reaches; tie = a.tie ∙ same a.by a.who })
    ];
  }

-- the closed periods up to `at` have their prices
pub record Closing (d : Day) (holds prices₀ prices : List ℕ) (at : ℕ) : Type 0 where
  pub can : CanPrice d holds prices₀
  pub same_row : length prices ≡ length prices₀
  pub upto : at ≤ P d
  pub same : (k : ℕ) → 0 < capacity d k → of_period prices k ≡ of_period prices₀ k
  pub least : (k : ℕ) → 1 ≤ k → k ≤ at → capacity d k ≡ 0 → LeastPrice (P d) d.flights holds prices₀ k (of_period prices k)

module _ {d : Day} {holds prices₀ prices : List ℕ} {at : ℕ} (s : Closing d holds prices₀ prices at) where
  module _ (l : at < length d.capacities) where
    pub closing_room : (at < length prices) × (at < most_periods) × (at + 1 ≤ P d)
    closing_room = omega (arith, s.same_row, s.can.prices_row, (s.can.can 0 (omega arith)).valid.periods_to)

    cap_is : capacity d (at + 1) ≡ get_or d.capacities at 0
    cap_is = let e : (at + 1) - 1 ≡ at = omega arith in period_in d.capacities (at + 1) (omega arith) ∙ ap (λ z. get_or d.capacities z 0) e

    pub closing_pass : get_or d.capacities at 0 ≢ 0 → Closing d holds prices₀ prices (at + 1)
    closing_pass some = record {
      can = s.can;
      same_row = s.same_row;
      upto = omega arith;
      same = s.same;
      least = λ k a b none. elim (eq? k (at + 1)) [
        | inl e ↦ absurd (some (sym cap_is ∙ ap (capacity d) (sym e) ∙ none))
        | inr e ↦ s.least k a (omega arith) none
      ];
    }

    -- nobody lands in a closed period
    paid_same : (i : ℕ) → i < N d → paid d.flights holds prices i ≡ paid d.flights holds prices₀ i
    paid_same i b = ap (λ q. cost d i (hold holds i) + q) here
      where
        here : of_period prices (land d holds i) ≡ of_period prices₀ (land d holds i)
        here = elim (lt? (P d) (land d holds i)) [
          | inr in_day ↦ s.same (land d holds i) (s.can.lands i b in_day)
          | inl past ↦
              period_out prices (land d holds i) (omega (arith, s.same_row, s.can.prices_row))
              ∙ sym (period_out prices₀ (land d holds i) (omega (arith, s.can.prices_row)))
        ]

    pub closing_pay : CanPay (P d) d.flights holds prices (at + 1)
    closing_pay =
        let c = s.can.can (at + 1) closing_room.2 in
        record {
          valid = c.valid;
          holds_row = c.holds_row;
          few = c.few;
          low = λ i b. omega (arith, c.low i b, paid_same i b);
          period = closing_room.2;
        }

    module _ {r : ℕ} (h : LeastPrice (P d) d.flights holds prices (at + 1) r) where
      pub closing_small : r ≤ 4294967295
      closing_small = elim h.low [ inl e ↦ omega arith | inr a ↦ omega (arith, a.tie, closing_pay.low a.by a.who) ]

      pub closing_next : get_or d.capacities at 0 ≡ 0 → Closing d holds prices₀ (set prices at r) (at + 1)
      closing_next none = record {
        can = s.can;
        same_row = length-set prices at r ∙ s.same_row;
        upto = omega arith;
        same = λ k some. v.others k (λ e. omega (arith, cap_is, ap (capacity d) e)) ∙ s.same k some;
        least = λ k a b shut. elim (eq? k (at + 1)) [
          | inl e ↦ rw (e, v.here) (least_ext prices paid_same h)
          | inr e ↦ rw (v.others k e) (s.least k a (omega arith) shut)
        ];
      }
        where
          v : Moved (of_period prices) (of_period (set prices at r)) (at + 1) r
          v =
              let e : (at + 1) - 1 ≡ at = omega arith in
              rw e at (period_moved prices (at + 1) r (omega arith) (omega (arith, closing_room)))
