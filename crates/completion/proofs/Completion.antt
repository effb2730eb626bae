-- Holds for the first flights of a day can be completed to a legal plan exactly when they break nothing and no stretch of the rest of the
-- day is short.
-- Assumes nothing.
use mathlib.Core.Path.{◌≡◌, sym, ap, ◌∙◌}
use mathlib.Core.Logic.{inl, inr, ◌↔◌}
use mathlib.Core.Bool.{true}
use mathlib.Core.List.{List, ◌++◌}
use Prim.Native.Nat.{ℕ, zero, suc, ◌+◌, ◌-◌, ◌*◌, ◌≤◌, ◌<◌}
use native.Mathlib.Numerals.{add-one}
use native.Mathlib.Omega.{arith}
use lib.ListN.{length, get_or, set, drop, length-append, length-drop, length-set, get_or-append}
use lib.Dec.{eqb}
use lib.Seq.{get_or-take, length-take-le, get_or-drop, get_or-append-add, get_or-set_other, ext_get_or}
use borrow.Author.Tests.{lt-ltb, le-ltb}
use Rattle.assignment.specs.Sum.{gate, count}
use Rattle.assignment.specs.Rows.{row}
use Rattle.assignment.proofs.Tests.{lt?}
use Rattle.assignment.proofs.Rows.{row_length, row_at, row_ext}
use Rattle.assignment.proofs.Sums.{sum_split, count_ext, count_zero}
use Rattle.day.specs.Day.{Day, P, N, width, column, flight_count, flight_at, due, latest, of_period, unlimited, takes, counted, hold, land, landings, Window, valid}
use Rattle.day.specs.Plan.{Legal, HasPlan, Short, breaks, first_break}
use Rattle.day.specs.Valid.{Valid}
use Rattle.day.proofs.Costs.{period_in, takes_in, takes_closing, counted_line, counted_open, counted_from, counted_to}
use Rattle.day.proofs.Existence.{plan_exactly}
use Rattle.day.proofs.Flights.{same_columns}
use Rattle.day.proofs.Tests.{first_none, none_passes}
use Rattle.day.proofs.Valid.{range_means, range_from}
use Rattle.legality.proofs.Meaning.{passes_window, upto, none_legal, walk_means}
use Rattle.completion.specs.Rest.{Completed, Unbroken, places_left, rest}
use Rattle.completion.specs.Loop.{Partial}

-- ---- what breaks a row, by the holds up to a table place

pub breaks_same : (d : Day) (h g : List ℕ) (i : ℕ) → ((j : ℕ) → j < i + 1 → hold h j ≡ hold g j) → breaks d h i ≡ breaks d g i
unfolding breaks
breaks_same d h g i same =
    let lands : (j : ℕ) → j < suc i → land d h j ≡ land d g j = λ j l. ap (λ x. due d j + x) (same j (omega arith)) in
    rw (count_ext (suc i) (land d g) (land d h) lands (land d h i), lands i (omega arith))

pub legal_unbroken : {d : Day} {h : List ℕ} → Valid d → Legal d h → (i : ℕ) → i ≤ N d → Unbroken d h i
unfolding first_break
legal_unbroken {d} {h} v legal i l = record { none = λ j b. none_passes (N d) (breaks d h) ((walk_means v legal.each).1 legal) j (omega arith) }

-- ---- the rest of the day

module _ (d : Day) (h : List ℕ) (i : ℕ) where
  pub left_length : length (places_left d h i) ≡ counted d
  unfolding places_left
  left_length = row_length (counted d) _

  pub left_at : (k : ℕ) → 1 ≤ k → k ≤ counted d → of_period (places_left d h i) k ≡ takes d k - count i (land d h) k
  unfolding places_left
  left_at zero some to = absurd (omega arith)
  left_at (suc k) some to = row_at (counted d) _ k 0 to ∙ rw (add-one k)

  rest_periods : P (rest d h i) ≡ P d
  rest_periods = length-take-le (P d) (places_left d h i) (omega (arith, left_length, counted_from (P d) d.closing))

  -- a closing number that is left is no greater, and 256 stays
  closing_most : (rest d h i).closing ≤ d.closing
  closing_most = elim (lt? d.closing unlimited) [
    | inl line ↦ rw (lt-ltb d.closing unlimited line) (omega (
      arith,
      left_at (P d + 1) (omega arith) (omega (arith, counted_line (P d) d.closing line)),
      period_in (places_left d h i) (P d + 1) (omega arith),
      ap (λ n. get_or (places_left d h i) n 0) back,
      takes_closing d.capacities d.closing,
    ))
    | inr none ↦ rw (le-ltb d.closing unlimited none) (omega arith)
  ]
    where
      back : P d + 1 - 1 ≡ P d
      back = omega arith

  rest_counted : counted (rest d h i) ≡ counted d
  rest_counted = elim (lt? d.closing unlimited) [
    | inl line ↦ omega (
      arith,
      counted_line (P d) d.closing line,
      counted_line (P (rest d h i)) (rest d h i).closing (omega (arith, closing_most)),
      rest_periods,
    )
    | inr none ↦ rw (le-ltb d.closing unlimited none, rest_periods)
  ]

  -- each period that is counted takes what is left of it
  pub rest_takes : (k : ℕ) → 1 ≤ k → k ≤ counted d → takes (rest d h i) k ≡ takes d k - count i (land d h) k
  rest_takes k from to = elim (lt? (P d) k) [
    | inr in_day ↦ omega (
      arith,
      takes_in (rest d h i).capacities (rest d h i).closing k (omega (arith, rest_periods)),
      period_in (rest d h i).capacities k (omega arith),
      get_or-take (P d) (places_left d h i) (k - 1) 0 (omega arith),
      period_in (places_left d h i) k (omega arith),
      left_at k from to,
    )
    | inl past ↦
        let e : k ≡ P d + 1 = omega (arith, counted_to (P d) d.closing) in
        let line : d.closing < unlimited = elim (lt? d.closing unlimited) [
          | inl line ↦ line
          | inr none ↦ absurd (omega (arith, counted_open (P d) d.closing none))
        ] in
        let at_closing_lem : takes (rest d h i) k ≡ get_or (places_left d h i) (P d) 0 =
        ap (takes (rest d h i)) (e ∙ ap (λ p. p + 1) (sym rest_periods)) ∙ takes_closing (rest d h i).capacities (rest d h i).closing
        ∙ rw (lt-ltb d.closing unlimited line)
        in
        let entry : k - 1 ≡ P d = omega arith in
        omega (arith, at_closing_lem, period_in (places_left d h i) k (omega arith), ap (λ n. get_or (places_left d h i) n 0) entry, left_at k from to)
  ]

  rest_count : N (rest d h i) ≡ N d - i
  unfolding flight_count
  rest_count = simp length-drop (omega arith)

rest_column : (flights : List ℕ) (i c j : ℕ) → column c (drop (i * width) flights) j ≡ column c flights (i + j)
rest_column flights i c j =
    let e : i * width + (j * width + c) ≡ (i + j) * width + c = omega arith in
    get_or-drop (i * width) flights (j * width + c) 0 ∙ rw e

rest_flight : (flights : List ℕ) (i j : ℕ) → flight_at (drop (i * width) flights) j ≡ flight_at flights (i + j)
rest_flight flights i j = same_columns (drop (i * width) flights) flights j (i + j) (λ c l. rest_column flights i c j)

window_same : {a b : Day} {i j k : ℕ} → due a i ≡ due b j → P a ≡ P b → latest a i ≡ latest b j → Window a i k → Window b j k
window_same dues periods latests w = record {
  from = omega (arith, w.from);
  closing = omega (arith, w.closing);
  limited = omega (arith, w.limited);
}

module _ (d : Day) (h : List ℕ) (i : ℕ) where
  rest_latest : (j : ℕ) → latest (rest d h i) j ≡ latest d (i + j)
  rest_latest j = rw (rest_periods d h i, rest_flight d.flights i j)

  window_rest : {j k : ℕ} → Window d (i + j) k → Window (rest d h i) j k
  window_rest {j} = window_same (sym (rest_column d.flights i 1 j)) (sym (rest_periods d h i)) (sym (rest_latest j))

  rest_window : {j k : ℕ} → Window (rest d h i) j k → Window d (i + j) k
  rest_window {j} = window_same (rest_column d.flights i 1 j) (rest_periods d h i) (rest_latest j)

pub rest_valid : {d : Day} → Valid d → (holds : List ℕ) (i : ℕ) → i ≤ N d → Valid (rest d holds i)
rest_valid {d} v h i l = record {
  periods_from = omega (arith, v.periods_from, rest_periods d h i);
  periods_to = omega (arith, v.periods_to, rest_periods d h i);
  whole = rw (rest_count d h i, length-drop) (omega (arith, v.whole));
  flights_to = omega (arith, v.flights_to, rest_count d h i);
  closing_to = omega (arith, closing_most d h i, v.closing_to);
  capacity_to = λ k b.
      let to : suc k ≤ P d = omega (arith, rest_periods d h i) in
      omega (
        arith,
        rest_takes d h i (suc k) (omega arith) (omega (arith, counted_from (P d) d.closing)),
        takes_in (rest d h i).capacities (rest d h i).closing (suc k) (omega arith),
        takes_in d.capacities d.closing (suc k) to,
        v.capacity_to k to,
      );
  flight = λ j b. range_means (rest d h i) j
      (rw (rest_periods d h i, rest_flight d.flights i j) (range_from d (i + j) (v.flight (i + j) (omega (arith, rest_count d h i)))));
  distinct = λ j o b c. rw (rest_column d.flights i 0 j, rest_column d.flights i 0 o)
      (v.distinct (i + j) (i + o) (omega (arith, rest_count d h i)) (omega arith));
}

-- ---- a plan of the day in two parts

count_two : (n m : ℕ) (x : ℕ → ℕ) (k : ℕ) → count (n + m) x k ≡ count n x k + count m (λ j. x (n + j)) k
unfolding count
count_two n m x k = sum_split n m (λ i. gate (eqb (x i) k) 1)

-- g has the first i holds of h, and then those of r
record Joined (h r g : List ℕ) (i : ℕ) : Type 0 where
  first : (j : ℕ) → j < i → hold g j ≡ hold h j
  later : (j : ℕ) → hold g (i + j) ≡ hold r j

module _ (d : Day) {h r g : List ℕ} {i : ℕ} (parts : Joined h r g i) (l : i ≤ N d) where
  first_lands : (j : ℕ) → j < i → land d g j ≡ land d h j
  first_lands j b = omega (arith, parts.first j b)

  later_lands : (j : ℕ) → land d g (i + j) ≡ land (rest d h i) r j
  later_lands j = omega (arith, parts.later j, rest_column d.flights i 1 j)

  landings_two : (k : ℕ) → landings d g k ≡ count i (land d h) k + landings (rest d h i) r k
  landings_two k =
      let e : i + N (rest d h i) ≡ N d = omega (arith, rest_count d h i) in
      omega (
        arith,
        ap (λ n. count n (land d g) k) e,
        count_two i (N (rest d h i)) (land d g) k,
        count_ext i (land d h) (land d g) first_lands k,
        count_ext (N (rest d h i)) (land (rest d h i) r) (λ j. land d g (i + j)) (λ j b. later_lands j) k,
      )

  -- the later holds of a legal plan are a legal plan of the rest
  rest_legal : Legal d g → length r ≡ N (rest d h i) → Legal (rest d h i) r
  rest_legal legal each = record {
    each = each;
    window = λ j b. rw (← later_lands j) (window_rest d h i (legal.window (i + j) (omega (arith, rest_count d h i))));
    room = λ k a b. omega (
      arith,
      landings_two k,
      rest_takes d h i k a (omega (arith, rest_counted d h i)),
      legal.room k a (omega (arith, rest_counted d h i)),
    );
  }

  -- and the other way round, where the first holds break nothing: their landings are within the capacities, and the rest has what is left
  joined_legal : length g ≡ N d → Unbroken d h i → Legal (rest d h i) r → Legal d g
  joined_legal each u legal = record { each = each; window = window; room = room }
    where
      window : (j : ℕ) → j < N d → Window d j (land d g j)
      window j b = elim (lt? j i) [
        | inl before ↦ rw (first_lands j before) (passes_window d h j (u.none j before))
        | inr behind ↦
            let e : i + (j - i) ≡ j = omega arith in
            rw (← e, later_lands (j - i)) (rest_window d h i (legal.window (j - i) (omega (arith, rest_count d h i))))
      ]

      room : (k : ℕ) → 1 ≤ k → k ≤ counted d → landings d g k ≤ takes d k
      room k a b = omega (
        arith,
        landings_two k,
        rest_takes d h i k a b,
        upto d h i u.none k b,
        legal.room k a (omega (arith, rest_counted d h i)),
      )

-- ---- the theorem

pub completed_less : {d : Day} {holds : List ℕ} {m j : ℕ} → Completed d holds m → j ≤ m → Completed d holds j
completed_less c l = record { plan = c.plan; legal = c.legal; same = λ o b. c.same o (omega arith) }

-- the first i holds, and then others
joined : (h r : List ℕ) (i : ℕ) → Joined h r (row i (hold h) ++ r) i
joined h r i = record {
  first = λ j l. get_or-append (row i (hold h)) r 0 j (omega (arith, row_length i (hold h))) ∙ row_at i (hold h) j 0 l;
  later = λ j. rw (row_length i (hold h)) at (get_or-append-add (row i (hold h)) r j 0);
}

-- Whoever completes the first i holds has a legal plan g that begins with them. No flight breaks g, and whether a flight breaks a row is
-- seen from the holds up to its own: so the first i break nothing. The other holds of g are a plan of the rest of the day: the windows
-- are the same, and the landings of all flights are those of the first i and those of the others. The other way round a legal plan of the
-- rest, put behind the first i holds, is a legal plan of the day: what it lands is within what the first i left, and these landed no more
-- than the capacities.
pub completed_by_rest : {d : Day} → Valid d → (holds : List ℕ) (i : ℕ) → i ≤ N d
    → Completed d holds i ↔ (Unbroken d holds i × HasPlan (rest d holds i))
completed_by_rest {d} v h i l = (λ c. (unbroken c, later c), λ p. completed p.0 p.1)
  where
    unbroken : Completed d h i → Unbroken d h i
    unbroken c = record {
      none = λ j b. breaks_same d h c.plan j (λ o a. sym (c.same o (omega arith))) ∙ (legal_unbroken v c.legal i l).none j b;
    }

    later : Completed d h i → HasPlan (rest d h i)
    later c =
        let parts : Joined h (drop i c.plan) c.plan i = record { first = c.same; later = λ j. sym (get_or-drop i c.plan j 0) } in
        record {
          holds = drop i c.plan;
          legal = rest_legal d parts l c.legal (rw length-drop (omega (arith, c.legal.each, rest_count d h i)));
        }

    completed : Unbroken d h i → HasPlan (rest d h i) → Completed d h i
    completed u p =
        let parts = joined h p.holds i in
        let each : length (row i (hold h) ++ p.holds) ≡ N d =
        rw (length-append, row_length i (hold h)) (omega (arith, p.legal.each, rest_count d h i))
        in
        record { plan = row i (hold h) ++ p.holds; legal = joined_legal d parts l each u p.legal; same = parts.first }

-- and the rest has a legal plan exactly when none of its stretches is short
pub completed_exactly : {d : Day} → Valid d → (holds : List ℕ) (i : ℕ) → i ≤ N d
    → Completed d holds i ↔ (Unbroken d holds i × ((a b : ℕ) → Short (rest d holds i) a b → ⊥))
completed_exactly v h i l =
    let split = completed_by_rest v h i l in
    let plans = plan_exactly (rest_valid v h i l) in
    (λ c. ((split.0 c).0, plans.0 (split.0 c).1), λ p. split.1 (p.0, plans.1 p.1))

-- ---- holds so far, and the places that they leave

-- the same landings leave the same
pub left_same : (d : Day) (h g : List ℕ) (i n : ℕ) → ((k : ℕ) → 1 ≤ k → k ≤ counted d → count n (land d g) k ≡ count i (land d h) k)
    → places_left d h i ≡ places_left d g n
unfolding places_left
left_same d h g i n same =
    row_ext (counted d) _ _ (λ k l. ap (λ x. takes d (k + 1) - x) (sym (same (k + 1) (omega arith) (omega arith))))

-- a row is what is left if each period has what is left there
pub left_from : (d : Day) (h left : List ℕ) (i : ℕ) → length left ≡ counted d
    → ((k : ℕ) → 1 ≤ k → k ≤ counted d → of_period left k ≡ takes d k - count i (land d h) k) → left ≡ places_left d h i
left_from d h left i each at =
    ext_get_or 0 left (places_left d h i) (each ∙ sym (left_length d h i))
    (λ k l. at (suc k) (omega arith) (omega arith) ∙ sym (left_at d h i (suc k) (omega arith) (omega arith)))

pub partial_start : {d : Day} {h left : List ℕ} → valid d ≡ true → length h ≡ N d → length left ≡ counted d
    → ((k : ℕ) → 1 ≤ k → k ≤ counted d → of_period left k ≡ takes d k) → Partial d h left 0
partial_start {d} {h} {left} good each size all_left = record {
  good = good;
  each = each;
  upto = omega arith;
  unbroken = record { none = λ j l. absurd (omega arith) };
  left_is = left_from d h left 0 size (λ k a b. omega (arith, all_left k a b, count_zero (land d h) k));
}

-- holds from i on are free
pub partial_set : {d : Day} {h left : List ℕ} {i : ℕ} → Partial d h left i → (v : ℕ) → Partial d (set h i v) left i
partial_set {d} {h} {left} {i} s v = record {
  good = s.good;
  each = length-set h i v ∙ s.each;
  upto = s.upto;
  unbroken = record { none = λ j l. breaks_same d (set h i v) h j (λ o b. same o (omega arith)) ∙ s.unbroken.none j l };
  left_is = s.left_is ∙ left_same d h (set h i v) i i (λ k a b. count_ext i (land d h) (land d (set h i v)) (λ j l. ap (λ x. due d j + x) (same j l)) k);
}
  where
    same : (j : ℕ) → j < i → hold (set h i v) j ≡ hold h j
    same j l = get_or-set_other h i j v 0 (omega arith)

pub partial_legal : {d : Day} {h left : List ℕ} → Partial d h left (N d) → Legal d h
unfolding first_break
partial_legal {d} {h} s = none_legal d h s.each (first_none (N d) (breaks d h) s.unbroken.none)
