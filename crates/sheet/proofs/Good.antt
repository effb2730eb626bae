-- The day check of the two rows and the closing number, and the test of the lists of capacities and flights and that number, are the same.
-- Assumes nothing.
use Prim.Native.Nat.{ℕ, zero, suc, ◌≤◌, ◌<◌, ◌*◌}
use native.Mathlib.Omega.{arith}
use mathlib.Core.Path.{◌≡◌, refl, sym, ◌∙◌}
use mathlib.Core.List.{List, [], ◌∷◌, ◌++◌, append_assoc, append-nil}
use mathlib.Core.Bool.{Bool, true, false, not, ◌&&◌, ◌||◌}
use lib.ListN.{length, get_or, length-append}
use lib.Dec.{leb, eqb}
use borrow.Author.Tests.{le-leb, eq-eqb, not-true}
use Rattle.day.specs.declared.Flight.{Flight}
use Rattle.day.specs.Day.{Day, day, P, N, unlimited, most_periods, most_flights, column, flight_at, flight_count, all, inside, flight_fits, in_range, is_new, valid, width}
use Rattle.day.specs.Flights.{first_flights, flights_of, row_of}
use Rattle.assignment.proofs.Tests.{and_true, true_and}
use Rattle.day.proofs.Tests.{all_at, all_from}
use Rattle.day.proofs.Valid.{valid_means}
use Rattle.day.proofs.Flights.{length_flights, rows_back}
use Rattle.sheet.specs.Lines.{used}
use Rattle.sheet.specs.Good.{distinct, caps_fit, flights_fit, Good}
use Rattle.sheet.proofs.Grammar.{fits_more, distinct_more}
use Rattle.sheet.proofs.Used.{used_step}

-- the last two tests of the day check: the ranges and the numbers
tests : (d : Day) → valid d ≡ true → (all (N d) (in_range (P d) d.flights) ≡ true) × (all (N d) (is_new d.flights) ≡ true)
unfolding valid
tests d e =
    let numbers = and_true e in
    let t = inside 1 most_periods (P d) && eqb (length d.flights) (N d * width) && leb (N d) most_flights && leb d.closing unlimited in
    let caps = all (P d) (λ k. leb (get_or d.capacities k 0) 255) in
    ((and_true {a = t && caps} numbers.0).1, numbers.1)

-- capacities

caps_from : (cs : List ℕ) → ((k : ℕ) → k < length cs → get_or cs k 0 ≤ 255) → caps_fit cs ≡ true
unfolding caps_fit
caps_from [] h = refl
caps_from (c ∷ cs) h = true_and (le-leb c 255 (h 0 (omega arith))) (caps_from cs (λ k l. h (suc k) (omega arith)))

caps_to : (cs : List ℕ) → caps_fit cs ≡ true → (k : ℕ) → k < length cs → leb (get_or cs k 0) 255 ≡ true
unfolding caps_fit
caps_to [] h k l = absurd (omega arith)
caps_to (c ∷ cs) h zero l = (and_true {a = leb c 255} h).0
caps_to (c ∷ cs) h (suc k) l = caps_to cs (and_true {a = leb c 255} h).1 k (omega arith)

-- flights

fits_less : (p : ℕ) (fs : List Flight) (f : Flight) → flights_fit p (fs ++ (f ∷ [])) ≡ true → (flights_fit p fs ≡ true) × (flight_fits p f ≡ true)
unfolding flights_fit
fits_less p [] f h = (refl, (and_true {a = flight_fits p f} h).0)
fits_less p (g ∷ fs) f h =
    let a = and_true {a = flight_fits p g} h in
    let b = fits_less p fs f a.1 in
    (true_and a.0 b.0, b.1)

distinct_less : (above fs : List Flight) (f : Flight) → distinct above (fs ++ (f ∷ [])) ≡ true → (distinct above fs ≡ true) × (used f.number (above ++ fs) ≡ false)
unfolding distinct
distinct_less above [] f h = (refl, rw append-nil (not-true _ (and_true {a = not (used f.number above)} h).0))
distinct_less above (g ∷ fs) f h =
    let a = and_true {a = not (used g.number above)} h in
    let b = distinct_less (above ++ (g ∷ [])) fs f a.1 in
    (true_and a.0 b.0, rw append_assoc at b.1)

module _ (p : ℕ) (row : List ℕ) where
  not_or : (a b : Bool) → not a && not b ≡ not (a || b)
  not_or true b = refl
  not_or false b = refl

  new_to : (x n : ℕ) → all n (λ j. not (eqb (column 0 row j) x)) ≡ not (used x (first_flights n row))
  unfolding all first_flights used
  new_to x zero = refl
  new_to x (suc n) = rw (new_to x n, used_step x row n) (not_or (used x (first_flights n row)) (eqb (column 0 row n) x))

  new_at : (i : ℕ) → is_new row i ≡ not (used (flight_at row i).number (first_flights i row))
  unfolding is_new flight_at
  new_at i = new_to (column 0 row i) i

  first_fit : (n : ℕ) → ((i : ℕ) → i < n → in_range p row i ≡ true) → flights_fit p (first_flights n row) ≡ true
  unfolding first_flights flights_fit
  first_fit zero h = refl
  first_fit (suc n) h = fits_more p (first_flights n row) (flight_at row n) (first_fit n (λ i l. h i (omega arith))) (h n (omega arith))

  first_new : (n : ℕ) → ((i : ℕ) → i < n → is_new row i ≡ true) → distinct [] (first_flights n row) ≡ true
  unfolding first_flights distinct
  first_new zero h = refl
  first_new (suc n) h =
      distinct_more [] (first_flights n row) (flight_at row n) (first_new n (λ i l. h i (omega arith))) (not-true _ (sym (new_at n) ∙ h n (omega arith)))

  all_fit : (n : ℕ) → flights_fit p (first_flights n row) ≡ true → all n (in_range p row) ≡ true
  unfolding first_flights all
  all_fit zero h = refl
  all_fit (suc n) h = let a = fits_less p (first_flights n row) (flight_at row n) h in true_and (all_fit n a.0) a.1

  all_new : (n : ℕ) → distinct [] (first_flights n row) ≡ true → all n (is_new row) ≡ true
  unfolding first_flights all
  all_new zero h = refl
  all_new (suc n) h = let a = distinct_less [] (first_flights n row) (flight_at row n) h in true_and (all_new n a.0) (new_at n ∙ rw a.1)

-- a day that passes the check
pub valid_good : (d : Day) → valid d ≡ true → Good d.capacities (flights_of d) d.closing
unfolding flights_of
valid_good d e =
    let v = valid_means e in
    let t = tests d e in
    record {
      some_period = v.periods_from;
      periods = v.periods_to;
      flights = rw (length_flights (N d) d.flights) v.flights_to;
      closing_to = v.closing_to;
      caps_fit_in = caps_from d.capacities v.capacity_to;
      flights_fit_in = first_fit (P d) d.flights (N d) (all_at (N d) _ t.0);
      apart = first_new (P d) d.flights (N d) (all_at (N d) _ t.1);
    }

pub row_whole : (d : Day) → valid d ≡ true → length d.flights ≡ N d * width
row_whole d e = (valid_means e).whole

length_row : (fs : List Flight) → length (row_of fs) ≡ length fs * width
unfolding row_of
length_row [] = refl
length_row (f ∷ fs) = simp length-append (omega (arith, length_row fs))

pub count_row : (caps : List ℕ) (fs : List Flight) (k : ℕ) → N (day caps (row_of fs) k) ≡ length fs
unfolding flight_count
count_row caps fs k = rw (length_row fs) (omega arith)

pub flights_row : (fs : List Flight) → first_flights (length fs) (row_of fs) ≡ fs
flights_row fs = rw append-nil at (rows_back fs [])

-- the day of lists and a number that pass
pub good_valid : (caps : List ℕ) (fs : List Flight) (k : ℕ) → Good caps fs k → valid (day caps (row_of fs) k) ≡ true
unfolding valid
good_valid caps fs k g =
    let n = count_row caps fs k in
    rw (
      n,
      le-leb 1 (length caps) g.some_period,
      le-leb (length caps) most_periods g.periods,
      eq-eqb (length (row_of fs)) (length fs * width) (length_row fs),
      le-leb (length fs) most_flights g.flights,
      le-leb k unlimited g.closing_to,
      all_from (length caps) (λ k. leb (get_or caps k 0) 255) (caps_to caps g.caps_fit_in),
      all_fit (length caps) (row_of fs) (length fs) (rw (flights_row fs) g.flights_fit_in),
      all_new (length caps) (row_of fs) (length fs) (rw (flights_row fs) g.apart),
    )
