-- The loop of `insert_all`, and its end: the order only renames the flights.
-- Assumes nothing.
use mathlib.Core.Path.{◌≡◌, refl, sym, ap, ◌∙◌}
use mathlib.Core.Logic.{◌⊎◌, inl, inr, ◌≢◌}
use mathlib.Core.List.{List}
use Prim.Native.Nat.{ℕ, zero, suc, ◌+◌, ◌-◌, ◌≤◌, ◌<◌}
use native.Mathlib.Omega.{arith}
use lib.ListN.{length, replicate, length-replicate, get_or-replicate, get_or-eq_default}
use Rattle.assignment.specs.Sum.{sum}
use Rattle.assignment.specs.Assignment as A
use Rattle.assignment.specs.Rows.{el}
use Rattle.assignment.specs.Instances.{ordered}
use Rattle.assignment.specs.Insertion.{Sound}
use Rattle.assignment.proofs.Tests.{eq?, lt?}
use Rattle.assignment.proofs.Sums.{count_zero}
use Rattle.assignment.proofs.Insertion.{sound_start}
use Rattle.assignment.proofs.Saving.{price_le}
use Rattle.assignment.proofs.Chains.{chained_start}
use Rattle.assignment.proofs.Closed.{Tied, priced, lands_open, opened_total}
use Rattle.assignment.proofs.Permuted.{Stands, permuted_stands, permuted_sound, permuted_total}
use Rattle.day.specs.Day.{Day, P, N, most_flights, period_row, unlimited, of_period, due, capacity, counted, cost as cost-of, Window, hold, land, total}
use Rattle.day.specs.Valid.{Valid}
use Rattle.day.proofs.Valid.{valid_flights}
use Rattle.day.specs.Instance.{instance, last_to}
use Rattle.day.proofs.Costs.{period_out, takes_in, takes_closing, counted_open}
use Rattle.day.proofs.Instance.{cost_le, window_in, in_window, total_instance}
use Rattle.day.proofs.Prices.{sound_saves, sound_smallest}
use Rattle.closed_prices.specs.ClosedPrices.{paid, Sets, CanPrice, Priced}
use Rattle.due_order.specs.DueOrder.{DueOrder}
use Rattle.path.specs.Path.{far, away, dear, room_in, chain_row, begun, landing}
use Rattle.insertion.specs.Insertion.{Placed, Kept, Inserted, cost_of_placed, CanInsert, Planned}
use Rattle.insertion.proofs.Inserting.{placed_total}

-- n flights are placed at the cost that was added up
pub record Building (d : Day) (places holds prices loads links dist via : List ℕ) (cost n : ℕ) : Type 0 where
  pub places_row : length places ≡ most_flights
  pub placed : Placed d places holds prices n
  pub kept : Kept d places holds loads links dist via n
  pub cost_is : cost ≡ cost_of_placed d places holds n

blank : (m k : ℕ) → el (replicate m 0) k ≡ 0
blank m k = elim (lt? k m) [
  | inl l ↦ get_or-replicate {A = ℕ} m k 0 0 l
  | inr l ↦ get_or-eq_default (replicate m 0) 0 {n = k} (omega (arith, length-replicate {A = ℕ} m 0))
]

cleared : (m k : ℕ) → of_period (replicate m 0) k ≡ 0
cleared m zero = refl
cleared m (suc k) = blank m k

blank_far : (m k : ℕ) → away (replicate m far) k ≡ far
blank_far m k = elim (lt? k m) [
  | inl l ↦ get_or-replicate {A = ℕ} m k far far l
  | inr l ↦ get_or-eq_default (replicate m far) far {n = k} (omega (arith, length-replicate {A = ℕ} m far))
]

none_placed : (d : A.Instance) (x : ℕ → ℕ) → d.n ≡ 0 → A.total d x ≡ 0
unfolding A.total sum
none_placed d x e = rw e

module _ {d : Day} (v : Valid d) {holds prices : List ℕ} (c : CanInsert d holds prices) where
  pub building_start : d.closing ≡ unlimited → {places prices₀ : List ℕ} → length places ≡ length (replicate {A = ℕ} most_flights 0)
      → DueOrder d.flights places → prices₀ ≡ replicate (length prices) 0
      → Building d places holds prices₀ (replicate period_row 0) (replicate chain_row 0) (replicate period_row far) (replicate period_row 0) 0 0
  building_start no_line {places} row o none = record {
    places_row = row ∙ length-replicate {A = ℕ} most_flights 0;
    placed = record {
      table = record { valid = v; row = o.row; permuted = o.permuted };
      no_line = no_line;
      falling = λ s t le _ b. o.falling s t le b;
      none_short = c.none_short;
      upto = omega arith;
      holds_row = c.holds_row;
      prices_row = ap length none ∙ length-replicate {A = ℕ} (length prices) 0 ∙ c.prices_row;
      sound = sound_start refl (λ k. rw none (cleared (length prices) k));
    };
    kept = record {
      loads_row = length-replicate {A = ℕ} period_row 0;
      loads_are = λ k _. blank period_row k ∙ sym (count_zero (landing d.flights places holds) k);
      chained = record { row = length-replicate {A = ℕ} chain_row 0; chains = chained_start (λ k _. blank chain_row k) };
      dists = length-replicate {A = ℕ} period_row far;
      vias = length-replicate {A = ℕ} period_row 0;
      all_far = blank_far period_row;
    };
    cost_is = sym (none_placed (begun d places 0) (landing d.flights places holds) refl);
  }

module _ {d : Day} {places holds prices loads links dist via : List ℕ} {cost n : ℕ} (s : Building d places holds prices loads links dist via cost n) where
  module _ {places₂ holds₂ prices₂ : List ℕ} {added : ℕ} (a : Inserted d places places₂ holds holds₂ prices₂ n added) where
    pub building_small : (cost + added ≤ 250880000) × (n < most_flights)
    building_small = omega (arith, s.cost_is, a.adds, placed_total a.placed, a.placed.upto, s.placed.table.valid.flights_to)

  module _ (end : length holds ≤ n) where
    all_placed : n ≡ N d
    all_placed = omega (arith, s.placed.upto, s.placed.holds_row)

    sound : Sound (begun d places (N d)) (landing d.flights places holds) (of_period prices)
    sound = rw all_placed at s.placed.sound

    -- all flights, at their table places
    abbrev whole : A.Instance
    whole = ordered (instance d) (el places) (N d)

    total_same : cost ≡ total d holds
    total_same =
        s.cost_is ∙ ap (cost_of_placed d places holds) all_placed
        ∙ opened_total whole dear (landing d.flights places holds) sound.accepted.legal
        ∙ permuted_total (instance d) s.placed.table.permuted (landing d.flights places holds) (land d holds) (λ o l. refl)
        ∙ total_instance d holds

    -- where the flight at table place i stands
    at_place : (i : ℕ) → i < N d → Stands (N d) (el places) i
    at_place i l = permuted_stands s.placed.table.permuted i l

    few : (i : ℕ) → i < N d → land d holds i ≤ P d + 1
    few i l =
        let h = at_place i l in
        omega (arith, ap (land d holds) h.is, (sound.accepted.legal.window h.at h.in_row).to, last_to d (el places h.at))

    pub building_price : CanPrice d holds prices
    building_price = record {
      can = λ k to. record {
        valid = valid_flights s.placed.table.valid;
        holds_row = s.placed.holds_row;
        few = few;
        low = λ i l. omega (
          arith,
          cost_le s.placed.table.valid i (hold holds i) l (omega (arith, few i l, (s.placed.table.valid.flight i l).due_from, s.placed.table.valid.periods_to)),
          price_le s.placed.sound (land d holds i),
          placed_total s.placed,
        );
        period = to;
      };
      prices_row = s.placed.prices_row;
      lands = λ i l in_day.
          let h = at_place i l in
          omega (
            arith,
            ap (λ o. room_in d (land d holds o)) h.is,
            lands_open sound.accepted.legal h.at h.in_row,
            takes_in d.capacities d.closing (land d holds i) in_day,
          );
    }

    module _ {prices₂ : List ℕ} (same_row : length prices₂ ≡ length prices) (c : Priced d holds prices prices₂) where
      -- a closed period of a window is one of 1 .. P
      in_day : {i k : ℕ} → Window d i k → i < N d → room_in d k ≡ 0 → (1 ≤ k) × (k ≤ P d) × (capacity d k ≡ 0)
      in_day {i} {k} w l none =
          let open_end : k ≢ P d + 1 = λ e. omega (arith, ap (room_in d) e, takes_closing d.capacities d.closing, s.placed.no_line) in
          let to : k ≤ P d = omega (arith, w.closing) in
          omega (arith, w.from, (s.placed.table.valid.flight i l).due_from, to, takes_in d.capacities d.closing k to)

      held : (i : ℕ) → land d holds i - due d i ≡ hold holds i
      held i = omega arith

      pays : (o : ℕ) → whole.cost o (landing d.flights places holds o) + of_period prices (landing d.flights places holds o) ≡ paid d.flights holds prices (el places o)
      pays o = ap (λ h. cost-of d (el places o) h + of_period prices (land d holds (el places o))) (held (el places o))

      high : (o k : ℕ) → o < N d → A.In whole o k → room_in d k ≡ 0
          → whole.cost o (landing d.flights places holds o) + of_period prices (landing d.flights places holds o) ≤ whole.cost o k + of_period prices₂ k
      high o k l v none =
          let b = s.placed.table.permuted.below o l in
          let w : Window d (el places o) k = in_window (record { from = v.from; to = v.to }) in
          let t = in_day w b none in
          omega (arith, pays o, (c.least k t.0 t.1 t.2).high (el places o) b (record { from = w.from; limited = w.limited }))

      low : (k : ℕ) → room_in d k ≡ 0 → (of_period prices₂ k ≡ 0) ⊎ Tied whole (landing d.flights places holds) (of_period prices) (of_period prices₂) k
      low k none = elim (eq? k 0) [
        | inl e ↦ inl (rw e refl)
        | inr e ↦ elim (lt? (P d) k) [
          | inl past ↦ inl (period_out prices₂ k (omega (arith, same_row, s.placed.prices_row)))
          | inr in_row ↦ elim (c.least k (omega arith) in_row (omega (arith, takes_in d.capacities d.closing k in_row))).low [
            | inl free ↦ inl free
            | inr a ↦ inr (tied in_row a (at_place a.by a.who))
          ]
        ]
      ]
        where
          tied : k ≤ P d → (a : Sets (P d) d.flights holds prices (N d) k (of_period prices₂ k)) → Stands (N d) (el places) a.by
              → Tied whole (landing d.flights places holds) (of_period prices) (of_period prices₂) k
          tied to a h =
              let w = window_in {d = d} {i = a.by} (record { from = a.reaches.from; closing = omega arith; limited = a.reaches.limited }) in
              record {
                by = h.at;
                who = h.in_row;
                fits = record { from = rw h.is w.from; to = rw h.is w.to };
                tie = rw h.is a.tie ∙ sym (pays h.at);
              }

      all_priced : Sound whole (landing d.flights places holds) (of_period prices₂)
      all_priced = priced whole dear sound (λ k some. elim (lt? (P d) k) [
        | inr in_row ↦ c.same k (omega (arith, takes_in d.capacities d.closing k in_row))
        | inl past ↦
            period_out prices₂ k (omega (arith, same_row, s.placed.prices_row)) ∙ sym (period_out prices k (omega (arith, s.placed.prices_row)))
      ]) high low

      -- as all flights of the day in table order
      in_table_order : Sound (instance d) (land d holds) (of_period prices₂)
      in_table_order = permuted_sound (instance d) s.placed.table.permuted (landing d.flights places holds) (land d holds) (λ o l. refl) all_priced

      pub building_end : Planned d holds prices₂ cost
      building_end =
          let all_counted = counted_open (P d) d.closing (omega (arith, s.placed.no_line)) in
          let rows : length prices₂ ≡ counted d = omega (arith, same_row, s.placed.prices_row, all_counted) in
          record {
            is_total = total_same;
            smallest = sound_smallest s.placed.table.valid holds prices₂ s.placed.holds_row rows in_table_order;
            saves = sound_saves s.placed.table.valid holds prices₂ s.placed.holds_row rows in_table_order;
          }
