-- What the steps of the code come to, a law for each way through a function or a loop.
-- Assumes nothing.
use mathlib.Core.Path.{◌≡◌, refl, sym, ap, ◌∙◌}
use mathlib.Core.Logic.{inl, inr, ◌≢◌}
use mathlib.Core.Bool.{Bool, true, false, ◌||◌}
use mathlib.Core.List.{List, [], ◌∷◌, ◌++◌}
use Prim.Native.Nat.{ℕ, zero, suc, ◌+◌, ◌-◌, ◌*◌, ◌≤◌, ◌<◌, zero-le}
use native.Mathlib.Omega.{arith}
use native.Mathlib.Numerals.{add-one}
use Rattle.std.specs.Prelude.{Option, Some, None, MatchOption}
use Rattle.std.specs.Option.{option_map}
use lib.ListN.{length, set, take, length-set}
use lib.Seq.{take-suc-set, take_all}
use lib.Dec.{T, ltb}
use borrow.Author.Tests.{lt-ltb, eq-eqb, ne_eqb, le-ltb}
use Rattle.day.specs.Day.{Day, P, N, most_periods, width, flight_at, flight_count, due_of, due, capacity, valid}
use Rattle.day.specs.Plan.{jump_or_limit, first_jump_or_limit}
use Rattle.day.proofs.Flights.{there}
use Rattle.day.proofs.Tests.{first_at, first_none}
use Rattle.day.proofs.Valid.{valid_means}
use Rattle.assignment.specs.Rows.{row}
use Rattle.assignment.proofs.Tests.{eq?}
use Rattle.quick_plan.specs.Quick.{before, ahead_of, ahead}
use Rattle.quick_plan.specs.declared.Waiting.{Waiting}
use Rattle.quick_plan.specs.Calls.{place_if}
use Rattle.quick_plan.specs.Loop.{DueBy, at_closing, pick, best_to, waiting, top, land_all, row_to}
use Rattle.quick_plan.proofs.First.{Found}
use Rattle.quick_plan.proofs.Places.{some_place, no_place}
use Rattle.quick_plan.proofs.Rows.{top_found, waits_due, land_none, land_one}

or_false : (x : Bool) → x ≡ x || false
or_false true = refl
or_false false = refl

-- ---- which flight goes before

module _ (f : List ℕ) (ck ci k i : ℕ) where
  pub before_costs : ci ≢ ck → ltb ci ck ≡ before f ck ci k i
  unfolding before
  before_costs ne = rw (ne_eqb ci ck ne) (or_false (ltb ci ck))

  module _ {di dk : ℕ} (ed : di ≡ due_of f i) (el : dk ≡ due_of f k) (e : ci ≡ ck) where
    pub before_dues : dk ≢ di → ltb dk di ≡ before f ck ci k i
    unfolding before
    before_dues ne = rw (← ed, ← el, le-ltb ci ck (omega arith), eq-eqb ci ck e, ne_eqb dk di ne) (or_false (ltb dk di))

    pub before_places : dk ≡ di → ltb k i ≡ before f ck ci k i
    unfolding before
    before_places q = rw (← ed, ← el, le-ltb ci ck (omega arith), eq-eqb ci ck e, le-ltb dk di (omega arith), eq-eqb dk di q)

-- ---- the best one

-- the best of the flights below i that wait
abbrev pub IsBest : Day → (costs : ℕ → ℕ) → (h : List ℕ) → (j i : ℕ) → Option Waiting → Type 0
IsBest d costs h j i (Some w) = (best_to d costs (waiting d h j) (N d) i ≡ w.place) × (w.cost ≡ costs w.place) × (w.place < N d)
IsBest d costs h j i None = best_to d costs (waiting d h j) (N d) i ≡ N d

pub record Scan (d : Day) (costs : ℕ → ℕ) (h : List ℕ) (j i : ℕ) (best : Option Waiting) : Type 0 where
  pub is_valid : valid d ≡ true
  pub rows : length h ≡ N d
  pub is_best : IsBest d costs h j i best

pub scan_start : {d : Day} (costs : ℕ → ℕ) {h : List ℕ} {j : ℕ} → valid d ≡ true → length h ≡ N d → Scan d costs h j 0 None
unfolding best_to
scan_start costs v e = record { is_valid = v; rows = e; is_best = refl }

-- a flight that waits is due by the period
waits_by : (d : Day) (costs : ℕ → ℕ) (h : List ℕ) (j i : ℕ) → valid d ≡ true → i < N d → T (waiting d h j i) → DueBy d.flights j i
waits_by d costs h j i v l t = record { there = there d.flights i l; from = ((valid_means v).flight i l).due_from; by = waits_due d costs h j i t }

-- the best one so far is a flight of the row
pub best_there : {d : Day} {costs : ℕ → ℕ} {h : List ℕ} {j i : ℕ} {w : Waiting} → Scan d costs h j i (Some w) → (w.place + 1) * width ≤ length d.flights
best_there {d} {w = w} s = there d.flights w.place s.is_best.2

module _ {d : Day} {costs : ℕ → ℕ} {h : List ℕ} {j i : ℕ} {best : Option Waiting} (s : Scan d costs h j i best) where
  module _ (l : i < length h) where
    pub in_row : i < N d
    in_row = omega (arith, s.rows)

    pub scan_there : (i + 1) * width ≤ length d.flights
    scan_there = there d.flights i in_row

    module _ {r : Bool} (er : r ≡ waiting d h j i) where
      pub scan_due : r ≡ true → DueBy d.flights j i
      scan_due t = waits_by d costs h j i s.is_valid in_row (rw (sym er ∙ t) tt)

      -- it does not wait
      pub scan_skip : r ≡ false → Scan d costs h j (i + 1) best
      unfolding best_to pick
      scan_skip t = record { is_valid = s.is_valid; rows = s.rows; is_best = still best s.is_best }
        where
          same : best_to d costs (waiting d h j) (N d) (i + 1) ≡ best_to d costs (waiting d h j) (N d) i
          same = rw (add-one, ← er, t)

          still : (best : Option Waiting) → IsBest d costs h j i best → IsBest d costs h j (i + 1) best
          still (Some w) b = (same ∙ b.0, b.1, b.2)
          still None b = same ∙ b

      module _ {x : ℕ} (ex : x ≡ costs i) (t : r ≡ true) where
        -- none waited before it
        pub scan_fresh : best ≡ None → Scan d costs h j (i + 1) (Some (record { place = i; cost = x }))
        unfolding best_to pick
        scan_fresh q = record {
          is_valid = s.is_valid;
          rows = s.rows;
          is_best = (
            let b : best_to d costs (waiting d h j) (N d) i ≡ N d = rw q at s.is_best in
                rw (add-one, ← er, t, b, eq-eqb (N d) (N d) refl),
            ex,
            in_row,
          );
        }

        module _ {w : Waiting} (q : best ≡ Some w) {g : Bool} (eg : g ≡ before d.flights x w.cost i w.place) where
          b : IsBest d costs h j i (Some w)
          b = rw q at s.is_best

          goes : g ≡ ahead d costs i w.place
          unfolding ahead_of
          goes = rw (← ex, ← b.1) eg

          pub scan_better : g ≡ true → Scan d costs h j (i + 1) (Some (record { place = i; cost = x }))
          unfolding best_to pick
          scan_better u = record {
            is_valid = s.is_valid;
            rows = s.rows;
            is_best = (rw (add-one, ← er, t, b.0, ne_eqb w.place (N d) (omega (arith, b.2)), ← goes, u), ex, in_row);
          }

          pub scan_worse : g ≡ false → Scan d costs h j (i + 1) (Some w)
          unfolding best_to pick
          scan_worse u = record {
            is_valid = s.is_valid;
            rows = s.rows;
            is_best = (rw (add-one, ← er, t, b.0, ne_eqb w.place (N d) (omega (arith, b.2)), ← goes, u), b.1, b.2);
          }

pub scan_end : {d : Day} {costs : ℕ → ℕ} {h : List ℕ} {j i : ℕ} (best : Option Waiting) → Scan d costs h j i best → i ≡ length h
    → option_map (λ w. w.place) best ≡ place_if (length h) (top d costs j h)
unfolding top
scan_end {d = d} (Some w) s e = let b = rw (e ∙ s.rows) at s.is_best in rw (s.rows, b.0, lt-ltb w.place (N d) b.2)
scan_end {d = d} None s e = let b = rw (e ∙ s.rows) at s.is_best in rw (s.rows, b, le-ltb (N d) (N d) (omega arith))

-- ---- the landings of a period

-- the best one, where there is one, can land
pub top_lands : (d : Day) (costs : ℕ → ℕ) (h : List ℕ) (j : ℕ) {b : ℕ} → b ≡ top d costs j h → b ≢ N d → (b < N d) × (due d b ≤ j)
top_lands d costs h j {b = b} e ne = go (top d costs j h) e (top_found d costs h j)
  where
    go : (x : ℕ) → b ≡ x → Found d costs (N d) (waiting d h j) (N d) x → (b < N d) × (due d b ≤ j)
    go x q (inl w) = absurd (omega (arith, w.0))
    go x q (inr w) = rw q (w.below, waits_due d costs h j x w.is_in)

-- the row h₀ and m landings come to the row h and the landings that are left
pub record Landing (d : Day) (costs : ℕ → ℕ) (j m : ℕ) (h₀ : List ℕ) (left : ℕ) (h : List ℕ) : Type 0 where
  pub is_valid : valid d ≡ true
  pub open_period : j ≤ P d
  pub rows : length h₀ ≡ N d
  pub same_length : length h ≡ length h₀
  pub same_row : land_all d costs j m h₀ ≡ land_all d costs j left h

pub landing_start : {d : Day} (costs : ℕ → ℕ) {j m : ℕ} {h : List ℕ} → valid d ≡ true → j ≤ P d → length h ≡ N d → {left : ℕ} → left ≡ m → Landing d costs j m h left h
landing_start {d = d} costs {j = j} {h = h} v p e q = record { is_valid = v; open_period = p; rows = e; same_length = refl; same_row = ap (λ m. land_all d costs j m h) (sym q) }

module _ {d : Day} {costs : ℕ → ℕ} {j m left : ℕ} {h₀ h : List ℕ} (s : Landing d costs j m h₀ left h) where
  pub landing_early : j ≤ most_periods
  landing_early = omega (arith, s.open_period, (valid_means s.is_valid).periods_to)

  pub landing_stop : place_if (length h) (top d costs j h) ≡ None → h ≡ land_all d costs j m h₀
  landing_stop none = sym (s.same_row ∙ land_none d costs j s.open_period left h (elim (eq? (top d costs j h) (N d)) [
    | inl q ↦ q
    | inr o ↦ omega (arith, (top_lands d costs h j refl o).0, no_place none, s.same_length, s.rows)
  ]))

  module _ {i : ℕ} (found : place_if (length h) (top d costs j h) ≡ Some i) where
    at_top : (i ≡ top d costs j h) × (top d costs j h ≢ N d)
    at_top = let w = some_place found in (w.0, λ q. omega (arith, w.1, s.same_length, s.rows))

    -- the flight found is one of the row, and due by now
    pub landing_flight : (i < length h) × (i < N d) × (due d i ≤ j)
    landing_flight =
        let w = top_lands d costs h j at_top.0 (λ e. at_top.1 (sym at_top.0 ∙ e)) in
        (omega (arith, w.0, s.same_length, s.rows), w.0, w.1)

    pub landing_more : {from after : ℕ} → from ≡ due d i → suc after ≡ left → Landing d costs j m h₀ after (set h i (j - from))
    landing_more {after = after} ed up = record {
      is_valid = s.is_valid;
      open_period = s.open_period;
      rows = s.rows;
      same_length = length-set h i _ ∙ s.same_length;
      same_row = rw (ed, at_top.0) (s.same_row ∙ (rw up at (land_one d costs j s.open_period after h at_top.1)));
    }

  pub landing_end : left ≤ 0 → h ≡ land_all d costs j m h₀
  unfolding land_all
  landing_end l = go left l s.same_row
    where
      go : (left : ℕ) → left ≤ 0 → land_all d costs j m h₀ ≡ land_all d costs j left h → h ≡ land_all d costs j m h₀
      go zero l e = sym e
      go (suc k) l e = absurd (omega arith)

-- ---- the start

-- the first i entries stand at the closing period
pub record Started (d : Day) (h₀ h : List ℕ) (i : ℕ) : Type 0 where
  pub is_valid : valid d ≡ true
  pub rows : length h₀ ≡ N d
  pub within : i ≤ length h
  pub same_length : length h ≡ length h₀
  pub front : take i h ≡ row i (at_closing d)

pub started_none : {d : Day} {h : List ℕ} → valid d ≡ true → length h ≡ N d → Started d h h 0
unfolding row
started_none v e = record { is_valid = v; rows = e; within = omega arith; same_length = refl; front = refl }

module _ {d : Day} {h₀ h : List ℕ} {i : ℕ} (s : Started d h₀ h i) where
  pub started_periods : P d ≤ 96
  started_periods = (valid_means s.is_valid).periods_to

  pub started_there : i < length h → i < N d
  started_there l = omega (arith, s.same_length, s.rows)

  pub started_more : {from : ℕ} → i < length h → from ≡ due d i → Started d h₀ (set h i (P d + 1 - from)) (i + 1)
  unfolding row
  started_more l ed = record {
    is_valid = s.is_valid;
    rows = s.rows;
    within = simp length-set (omega arith);
    same_length = length-set h i _ ∙ s.same_length;
    front = rw (add-one, ed) (take-suc-set h i (at_closing d i) l ∙ ap (λ x. x ++ (at_closing d i ∷ [])) s.front);
  }

  pub started_end : length h ≤ i → h ≡ row (N d) (at_closing d)
  started_end g =
      let q : i ≡ N d = omega (arith, s.within, s.same_length, s.rows) in
      sym (take_all i h (omega arith)) ∙ s.front ∙ ap (λ n. row n (at_closing d)) q

-- ---- the periods

-- h is the row after the periods before j
pub record Planned (d : Day) (next : ℕ → ℕ → ℕ) (h : List ℕ) (j : ℕ) : Type 0 where
  pub is_valid : valid d ≡ true
  pub rows : length h ≡ N d
  pub so_far : h ≡ row_to d next (j - 1)

pub planned_start : {d : Day} (next : ℕ → ℕ → ℕ) {h : List ℕ} → valid d ≡ true → length h ≡ N d → h ≡ row (N d) (at_closing d) → Planned d next h 1
unfolding row_to
planned_start next v q e = record { is_valid = v; rows = q; so_far = e }

module _ {d : Day} {next : ℕ → ℕ → ℕ} {h : List ℕ} {j : ℕ} (s : Planned d next h j) where
  pub planned_next : {x : List ℕ} → 1 ≤ j → length x ≡ length h → x ≡ land_all d (next j) j (capacity d j) h → Planned d next x (j + 1)
  unfolding row_to
  planned_next {x} l q ex = record { is_valid = s.is_valid; rows = q ∙ s.rows; so_far = go (j - 1) (omega arith) (omega arith) s.so_far }
    where
      go : (k : ℕ) → suc k ≡ j → j + 1 - 1 ≡ j → h ≡ row_to d next k → x ≡ row_to d next (j + 1 - 1)
      go k e up so = rw up (ex ∙ rw so (after k e))
        where
          after : (k : ℕ) → suc k ≡ j → land_all d (next j) j (capacity d j) (row_to d next k) ≡ row_to d next j
          after k e = rw (← e) refl

  pub planned_end : {stop : ℕ} → stop < j → j ≤ suc stop → h ≡ row_to d next stop
  planned_end {stop} g l = let q : j - 1 ≡ stop = omega arith in rw q at s.so_far

-- ---- the first jump or limit

-- the first with a jump or a limit is found, or there is none
pub first_is : (f : List ℕ) {n : ℕ} → n ≡ flight_count f → (found : Option ℕ)
    → MatchOption found ((k : ℕ) → 0 ≤ k → k < n → jump_or_limit (flight_at f k) ≡ false)
    (λ i. (0 ≤ i) × (i < n) × (jump_or_limit (flight_at f i) ≡ true) × ((k : ℕ) → 0 ≤ k → k < i → jump_or_limit (flight_at f k) ≡ false))
    → found ≡ place_if (flight_count f) (first_jump_or_limit f)
unfolding first_jump_or_limit
first_is f size (Some i) w =
    rw (first_at (flight_count f) (λ k. jump_or_limit (flight_at f k)) i (omega (arith, w.1)) (λ k. w.3 k zero-le) w.2, lt-ltb i (flight_count f) (omega (arith, w.1)))
first_is f size None none =
    rw (first_none (flight_count f) (λ k. jump_or_limit (flight_at f k)) (λ k l. none k zero-le (omega arith)), le-ltb (flight_count f) (flight_count f) (omega arith))
