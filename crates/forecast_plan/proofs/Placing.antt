-- The flights held one after another: what the program knows of the flights above is what the definition says of them.
-- Assumes nothing.
use mathlib.Core.Path.{◌≡◌, refl, ap, sym, ◌∙◌}
use mathlib.Core.Logic.{inl, inr}
use mathlib.Core.List.{List}
use Prim.Native.Nat.{ℕ, ◌+◌, ◌-◌, ◌*◌, ◌≤◌, ◌<◌}
use native.Mathlib.Numerals.{add-one}
use native.Mathlib.Omega.{arith}
use lib.ListN.{length, set, replicate, length-set, length-replicate, get_or-eq_default}
use lib.Seq.{ext_get_or}
use Rattle.assignment.specs.Sum.{sum, count}
use Rattle.assignment.specs.Rows.{el}
use Rattle.assignment.specs.Moves.{Moved}
use Rattle.assignment.proofs.Rows.{set_moved, blank_at}
use Rattle.assignment.proofs.Sums.{sum_ext, sum_most, sum_member, count_suc, count_zero, count_le}
use Rattle.assignment.proofs.Tests.{eq?, lt?, gate_eq, gate_ne}
use Rattle.day.specs.Day.{Day, P, N, most_flights, period_row, due, rate, flight_at, last_of, hold, land}
use Rattle.day.specs.declared.Flight.{Flight}
use Rattle.day.proofs.Costs.{due_latest}
use Rattle.day.proofs.Flights.{due_read}
use Rattle.forecast_plan.specs.declared.Chosen.{Chosen}
use Rattle.forecast_plan.specs.Forecast.{Forecasts, weight, forecast, held, waiting, first_room, lands, expected, longest, forecast_holds, expected_total}
use Rattle.forecast_plan.specs.Loop.{Counts, Turns, waits_of, airborne, weighed, Chooses, Ready, Fit, Placed}
use Rattle.forecast_plan.proofs.Parts.{part_length, parted_days}
use Rattle.forecast_plan.proofs.Turns.{waiting_same, waiting_most, none_behind}
use Rattle.forecast_plan.proofs.Landing.{room_same}
use Rattle.forecast_plan.proofs.OneMore.{turns_more}
use Rattle.forecast_plan.proofs.Least.{is_least}
use Rattle.forecast_plan.proofs.Expected.{expected_is}
use Rattle.forecast_plan.proofs.Holds.{holds_length, each_hold, each_least, hold_window, expected_most}
use Rattle.forecast_plan.proofs.Holding.{chooses_same}

-- no weight is above their sum
pub weight_to : {d : Day} {f : Forecasts} → Fit d f → (s : ℕ) → el f.weights s ≤ 1000
weight_to {d} {f} fit s = elim (lt? s f.count) [
  | inl l ↦ omega (arith, fit.add_up, sum_member f.count s (weight f) l)
  | inr l ↦ omega (arith, get_or-eq_default f.weights 0 {n = s} (omega (arith, fit.weights_are)))
]

-- a row of periods that counts flights has no entry above their number
counts_held : (held_to : List ℕ) (n : ℕ) (x : ℕ → ℕ) → length held_to ≡ period_row → n ≤ most_flights
    → ((k : ℕ) → k < period_row → el held_to k ≡ count n x k) → Counts held_to
counts_held held_to n x size most counted = record {
  places = size;
  few = λ k. elim (lt? k period_row) [
    | inl l ↦ omega (arith, counted k l, count_le n x k)
    | inr l ↦ omega (arith, get_or-eq_default held_to 0 {n = k} (omega (arith, size)))
  ];
}

module _ {d : Day} {f : Forecasts} {holds held_to waits : List ℕ} {total i : ℕ} (p : Placed d f holds held_to waits total i) (l : i < length holds) where
  in_table : i < N d
  in_table = omega (arith, p.each)

  module _ {x : Flight} (x-is : x ≡ flight_at d.flights i) where
    pub placed_ready : Ready x f.air_factor (P d) f.weights f.rows waits
    unfolding flight_at
    placed_ready = rw x-is (record {
      parted = rw p.fit.weights_are p.turns.parted;
      odds = weight_to p.fit;
      factor_to = p.fit.factor_to;
      rate_to = (p.fit.good.flight i in_table).rate_to;
      due_from = (p.fit.good.flight i in_table).due_from;
      due_to = (p.fit.good.flight i in_table).due_to;
      reach = due_latest d i (p.fit.good.flight i in_table).due_to;
    })

    -- a flight held to a period lands where the definition says
    same_lands : (s q : ℕ) → s < f.count → due d i ≤ q
        → lands (held d (forecast_holds d f) i) (forecast d f s) q ≡ first_room (waits_of waits s) (forecast d f s) q
    same_lands s q b from =
        let days = parted_days p.turns.parted b in
        sym (room_same (waits_of waits s) (waiting (held d (forecast_holds d f) i) (forecast d f s)) (forecast d f s) q (λ k after to.
        let some : 1 ≤ k = omega (arith, (p.fit.good.flight i in_table).due_from) in
        (p.turns.known s b).each k some (omega (arith, days)) to
        ∙ waiting_same (el held_to) (held d (forecast_holds d f) i) (forecast d f s) k (λ o one c. p.counted o (omega (arith, days, p.fit.good.periods_to)))))

    -- so that its hold costs what the definition says
    same_cost : (h : ℕ) → h ≤ longest d i
        → weighed (flight_at d.flights i) f.air_factor (airborne (P d) f.weights f.rows waits (length f.weights)) h
        ≡ expected d f (forecast_holds d f) i h
    unfolding weighed flight_at
    same_cost h to =
        rw p.fit.weights_are (ap (λ a. 1000 * rate d i * h + f.air_factor * rate d i * a) (sum_ext f.count _ _ (λ s b. ap (λ k. weight f s * (k - (due d i + h))) (sym (same_lands s (due d i + h) b (omega arith)))))
        ∙ sym (expected_is d f p.fit.add_up (forecast_holds d f) i h))

    module _ {c : Chosen}
        (chosen : Chooses (last_of (P d) x - x.due) (weighed x f.air_factor (airborne (P d) f.weights f.rows waits (length f.weights))) c) where
      same_choice : Chooses (longest d i) (expected d f (forecast_holds d f) i) c
      unfolding last_of flight_at
      same_choice = chooses_same same_cost (rw x-is at chosen)

      pub placed_hold : c.hold ≡ hold (forecast_holds d f) i
      placed_hold = same_choice.hold_is ∙ sym (each_hold d f (N d) i in_table)

      pub placed_cost : c.cost ≡ expected d f (forecast_holds d f) i (hold (forecast_holds d f) i)
      placed_cost = same_choice.cost_is ∙ ap (expected d f (forecast_holds d f) i) placed_hold

      placed_short : c.hold ≤ longest d i
      placed_short = rw same_choice.hold_is (is_least (expected d f (forecast_holds d f) i) (longest d i)).within

      placed_to : due d i + c.hold ≤ P d + 1
      placed_to = (hold_window d i (p.fit.good.flight i in_table) placed_short).closing

      -- the period that it is held to, as the program reads it
      module _ {w : ℕ} (w-is : w ≡ x.due) where
        pub placed_lands : w + c.hold ≡ due d i + c.hold
        placed_lands = ap (λ z. z + c.hold) (w-is ∙ due_read x d.flights i x-is)

        pub placed_due : w + c.hold < period_row
        placed_due = omega (arith, placed_lands, placed_to, p.fit.good.periods_to)

      pub placed_cost_most : c.cost ≤ 9600000000
      placed_cost_most = rw same_choice.cost_is (expected_most p.fit (forecast_holds d f) i in_table c.hold placed_short)

      -- the flight takes its place
      module _ {q : ℕ} (q-is : q ≡ due d i + c.hold) where
        lands_to : land d (forecast_holds d f) i ≡ q
        lands_to = omega (arith, q-is, placed_hold)

        m : Moved (el held_to) (el (set held_to q (el held_to q + 1))) q (el held_to q + 1)
        m = set_moved held_to q (el held_to q + 1) (omega (arith, q-is, placed_to, p.turns.counts.places, p.fit.good.periods_to))

        next_counted : (k : ℕ) → k < period_row → el (set held_to q (el held_to q + 1)) k ≡ held d (forecast_holds d f) (i + 1) k
        next_counted k b =
            let more = ap (λ n. count n (land d (forecast_holds d f)) k) (add-one i) ∙ count_suc i (land d (forecast_holds d f)) k in
            elim (eq? k q) [
              | inl e ↦ omega (arith, more, p.counted k b, gate_eq (land d (forecast_holds d f) i) k 1 (lands_to ∙ sym e), ap (el (set held_to q (el held_to q + 1))) e, ap (el held_to) e, m.here)
              | inr o ↦ omega (arith, more, p.counted k b, gate_ne (land d (forecast_holds d f) i) k 1 (λ z. o (sym z ∙ lands_to)), m.others k o)
            ]

        next_counts : Counts (set held_to q (el held_to q + 1))
        next_counts = counts_held (set held_to q (el held_to q + 1)) (i + 1) (land d (forecast_holds d f)) (length-set held_to q (el held_to q + 1) ∙ p.turns.counts.places) (omega (arith, in_table, p.fit.good.flights_to)) next_counted

        -- and the rows are to be brought up to date
        pub placed_turns : {held_to₂ : List ℕ} → held_to₂ ≡ set held_to q (el held_to q + 1)
            → Turns (P d) f.count f.rows held_to₂ waits q × (1 ≤ q) × (q ≤ P d + 1) × (1 ≤ P d)
        placed_turns is =
            let some : 1 ≤ q = omega (arith, q-is, (p.fit.good.flight i in_table).due_from) in
            let to : q ≤ P d + 1 = omega (arith, q-is, placed_to) in
            rw is (turns_more q p.turns next_counts m some to, some, to, p.fit.good.periods_from)

        pub placed_next : {held_to₂ waits₂ : List ℕ} → held_to₂ ≡ set held_to q (el held_to q + 1)
            → Turns (P d) f.count f.rows held_to₂ waits₂ (P d + 1) → Placed d f (set holds i c.hold) held_to₂ waits₂ (total + c.cost) (i + 1)
        unfolding sum
        placed_next is t = record {
          fit = p.fit;
          each = length-set holds i c.hold ∙ p.each;
          upto = omega (arith, in_table);
          turns = t;
          counted = rw is next_counted;
          filled = λ j b. elim (eq? j i) [
            | inl e ↦ rw e (stored.here ∙ placed_hold)
            | inr o ↦ stored.others j o ∙ p.filled j (omega arith)
          ];
          summed = rw (add-one i, sym p.summed, placed_cost);
        }
          where
            stored : Moved (el holds) (el (set holds i c.hold)) i c.hold
            stored = set_moved holds i c.hold l

  -- what is summed so far
  pub placed_total : total ≤ i * 9600000000
  placed_total =
      rw p.summed (sum_most i 9600000000 _ (λ j b.
      let to : j < N d = omega (arith, in_table) in
      expected_most p.fit (forecast_holds d f) j to _ (each_least d f j to).within))

-- ---- the first and the last

-- nobody waits where nobody is held
waiting_none : (held_to : ℕ → ℕ) (capacities : List ℕ) → ((k : ℕ) → held_to k ≡ 0) → (j : ℕ) → waiting held_to capacities j ≡ 0
waiting_none held_to capacities none j = omega (arith, waiting_most held_to capacities 0 (λ k. omega (arith, none k)) j)

pub placed_none : {d : Day} {f : Forecasts} {holds : List ℕ} → Fit d f → length holds ≡ N d
    → Placed d f holds (replicate period_row 0) (replicate 784 0) 0 0
unfolding sum
placed_none {d} {f} fit each = record {
  fit = fit;
  each = each;
  upto = omega arith;
  turns = record {
    parted = record {
      periods = fit.good.periods_to;
      forecasts = fit.count_to;
      whole = fit.rows_are;
      sizes = length-replicate {A = ℕ} 784 0;
    };
    counts = record { places = length-replicate {A = ℕ} period_row 0; few = λ k. omega (arith, blank_at period_row k) };
    known = λ s b. record { each = λ k some before in_day. blank_at 784 (s * period_row + k) ∙ sym (waiting_none (el (replicate period_row 0)) (forecast d f s) (blank_at period_row) k) };
    behind = λ s b. none_behind (part_length (P d) f.count f.rows fit.rows_are s b);
  };
  counted = λ k b. blank_at period_row k ∙ sym (count_zero (land d (forecast_holds d f)) k);
  filled = λ j b. absurd (omega arith);
  summed = refl;
}

module _ {d : Day} {f : Forecasts} {holds held_to waits : List ℕ} {total i : ℕ} (p : Placed d f holds held_to waits total i) (l : length holds ≤ i) where
  whole : i ≡ N d
  whole = omega (arith, p.each, p.upto)

  pub placed_all : (total ≡ expected_total d f (forecast_holds d f)) × (holds ≡ forecast_holds d f)
  unfolding expected_total
  placed_all = (
    p.summed ∙ ap (λ n. sum n (λ j. expected d f (forecast_holds d f) j (hold (forecast_holds d f) j))) whole,
    ext_get_or 0 holds (forecast_holds d f) (p.each ∙ sym (holds_length d f (N d))) (λ j b. p.filled j (omega arith)),
  )
