-- The row of flights: a flight's numbers by their columns, its flights as a list, a flight stored, and the row that flights make up.
-- Assumes nothing.
use Prim.Native.Nat.{ℕ, zero, suc, ◌≤◌, ◌<◌, ◌+◌, ◌*◌}
use native.Mathlib.Omega.{arith}
use native.Mathlib.Numerals.{add-one}
use mathlib.Core.Path.{◌≡◌, refl, ap, ◌∙◌}
use mathlib.Core.List.{List, [], ◌∷◌, ◌++◌, append_assoc, append-nil}
use lib.ListN.{length, get_or, take, drop, set, length-append, length-drop, get_or-append}
use lib.Dec.{lit<}
use lib.Seq.{get_or-drop, get_or-take, sets-eq, get_or-append-add, length-take-le, take-suc}
use Rattle.assignment.specs.Rows.{row as entries}
use Rattle.day.specs.declared.Flight.{Flight}
use Rattle.day.specs.Day.{width, column, flight_at, flight_count}
use Rattle.day.specs.Flights.{first_flights, numbers_of, row_of, with_flight}

-- the row has the numbers of every flight
pub there : (row : List ℕ) (i : ℕ) → i < flight_count row → (i + 1) * width ≤ length row
unfolding flight_count
there row i l = omega arith

-- a flight that was read has the due period of its column
pub due_read : (f : Flight) (row : List ℕ) (i : ℕ) → f ≡ flight_at row i → f.due ≡ column 1 row i
unfolding flight_at
due_read f row i e = ap (λ (g : Flight). g.due) e

-- ---- columns

-- places of the same numbers, column by column, have the same flight
pub same_columns : (a b : List ℕ) (i k : ℕ) → ((j : ℕ) → j < width → column j a i ≡ column j b k) → flight_at a i ≡ flight_at b k
unfolding flight_at
same_columns a b i k same =
    rw (
      same 0 (lit< tt),
      same 1 (lit< tt),
      same 2 (lit< tt),
      same 3 (lit< tt),
      same 4 (lit< tt),
      same 5 (lit< tt),
      same 6 (lit< tt),
    )

-- rows with the same entries have the same flights
flights_same : (n : ℕ) (a b : List ℕ) → ((i : ℕ) → i < n * width → get_or a i 0 ≡ get_or b i 0) → first_flights n a ≡ first_flights n b
unfolding first_flights
flights_same zero a b same = refl
flights_same (suc n) a b same =
    rw (flights_same n a b (λ i l. same i (omega arith)), same_columns a b n n (λ j l. same (n * width + j) (omega arith)))

-- ---- a flight stored

module _ (row : List ℕ) (n : ℕ) (f : Flight) (h : n * width + width ≤ length row) where
  -- a store for each column
  pub stored : set (set (set (set (set (set (set row (n * width) f.number) (n * width + 1) f.due) (n * width + 2) f.rate) (n * width + 3) f.after) (n * width + 4) f.jump) (n * width + 5) f.limit) (n * width + 6) f.late
      ≡ with_flight row n f
  unfolding with_flight
  stored =
      let e1 : n * width + 1 ≡ suc (n * width) = omega arith in
      let e2 : n * width + 2 ≡ suc (suc (n * width)) = omega arith in
      let e3 : n * width + 3 ≡ suc (suc (suc (n * width))) = omega arith in
      let e4 : n * width + 4 ≡ suc (suc (suc (suc (n * width)))) = omega arith in
      let e5 : n * width + 5 ≡ suc (suc (suc (suc (suc (n * width))))) = omega arith in
      let e6 : n * width + 6 ≡ suc (suc (suc (suc (suc (suc (n * width)))))) = omega arith in
      rw (e1, e2, e3, e4, e5, e6) (sets-eq (numbers_of f) row (n * width) h ∙ append_assoc (take (n * width) row) (numbers_of f) (drop (n * width + width) row))

  front_length : length (take (n * width) row) ≡ n * width
  front_length = length-take-le (n * width) row (omega arith)

  with_at : (k : ℕ) → get_or (with_flight row n f) (n * width + k) 0 ≡ get_or (numbers_of f ++ drop (n * width + width) row) k 0
  unfolding with_flight
  with_at k = rw front_length at (get_or-append-add (take (n * width) row) (numbers_of f ++ drop (n * width + width) row) k 0)

  with_flight_lem : flight_at (with_flight row n f) n ≡ f
  unfolding flight_at
  with_flight_lem = same_columns (with_flight row n f) (numbers_of f ++ drop (n * width + width) row) n 0 (λ j l. let e : 0 * width + j ≡ j = omega arith in rw e (with_at j))

  with_below : (i : ℕ) → i < n * width → get_or (with_flight row n f) i 0 ≡ get_or row i 0
  unfolding with_flight
  with_below i l = get_or-append (take (n * width) row) (numbers_of f ++ drop (n * width + width) row) 0 i (omega (arith, front_length)) ∙ get_or-take (n * width) row i 0 l

  pub with_length : length (with_flight row n f) ≡ length row
  unfolding with_flight
  with_length = simp (length-append, length-drop) (omega (arith, front_length))

  pub with_first : first_flights (n + 1) (with_flight row n f) ≡ first_flights n row ++ (f ∷ [])
  unfolding first_flights
  with_first = rw (add-one n, flights_same n (with_flight row n f) row with_below, with_flight_lem)

-- ---- the row that flights make up

row_snoc : (fs : List Flight) (f : Flight) → row_of (fs ++ (f ∷ [])) ≡ row_of fs ++ numbers_of f
unfolding row_of
row_snoc [] f = refl
row_snoc (g ∷ fs) f = rw (row_snoc fs f)

-- k entries more of a list's front
take_more : (l : List ℕ) (at k : ℕ) → at + k ≤ length l → take (at + k) l ≡ take at l ++ entries k (λ j. get_or l (at + j) 0)
unfolding entries
take_more l at zero h = let e : at + 0 ≡ at = omega arith in rw (e, append-nil)
take_more l at (suc k) h =
    let e : at + suc k ≡ suc (at + k) = omega arith in
    rw (e, take-suc l (at + k) 0 (omega arith), take_more l at k (omega arith)) (append_assoc (take at l) _ _)

-- the flights of a row make up its front
pub row_front : (n : ℕ) (row : List ℕ) → n * width ≤ length row → row_of (first_flights n row) ≡ take (n * width) row
unfolding first_flights row_of flight_at entries
row_front zero row h = refl
row_front (suc n) row h =
    let e : suc n * width ≡ n * width + width = omega arith in
    rw (e, row_snoc (first_flights n row) (flight_at row n), row_front n row (omega arith), take_more row (n * width) width (omega arith))

pub length_flights : (n : ℕ) (row : List ℕ) → length (first_flights n row) ≡ n
unfolding first_flights
length_flights zero row = refl
length_flights (suc n) row = simp (length-append, length_flights n row) (omega arith)

-- the flights of a row that was made of flights

flight_later : (row : List ℕ) (n : ℕ) → flight_at row (suc n) ≡ flight_at (drop width row) n
flight_later row n =
    same_columns row (drop width row) (suc n) n
    (λ j l. let e : suc n * width + j ≡ width + (n * width + j) = omega arith in rw (e, get_or-drop width row (n * width + j) 0))

flights_first : (n : ℕ) (row : List ℕ) → first_flights (suc n) row ≡ flight_at row 0 ∷ first_flights n (drop width row)
unfolding first_flights
flights_first zero row = refl
flights_first (suc n) row = rw (flights_first n row, flight_later row n)

pub rows_back : (fs : List Flight) (ys : List ℕ) → first_flights (length fs) (row_of fs ++ ys) ≡ fs
unfolding row_of first_flights flight_at
rows_back [] ys = refl
rows_back (f ∷ fs) ys = flights_first (length fs) (numbers_of f ++ (row_of fs ++ ys)) ∙ rw (rows_back fs ys)
