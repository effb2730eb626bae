-- How a sheet's lines follow one another in the buffer: one line more, and the whole.
-- Assumes nothing.
use Rattle.std.proofs.Common.{Ok, Err}
use Prim.Native.Nat.{ℕ, zero, suc, ◌≤◌, ◌<◌, ◌+◌, ◌-◌}
use native.Mathlib.Omega.{arith}
use native.Mathlib.Numerals.{add-one}
use mathlib.Core.Path.{◌≡◌, refl, ap, ◌∙◌}
use mathlib.Core.List.{List, [], ◌∷◌, ◌++◌, append_assoc}
use mathlib.Core.Bool.{true, false}
use lib.ListN.{length, get_or, take, drop, length-append, take-append-drop}
use lib.Seq.{take-suc, length-take-le}
use borrow.Author.Tests.{ltb-true, ltb-false}
use Rattle.answers.specs.declared.Refusal.TheVariants.{BadDay}
use Rattle.text.specs.Digits.{ended, separated}
use Rattle.text.specs.Writing.{Put}
use Rattle.text.proofs.Writing.{put_none, then, it_fits}
use Rattle.day.specs.declared.Flight.{Flight}
use Rattle.day.specs.Day.{Day, N, unlimited, has_line, flight_at, valid}
use Rattle.day.specs.Flights.{first_flights, flights_of}
use Rattle.sheet.specs.Text.{period_names, flight_names, closing_name, closing_text, limit_text, period_text, before_limit, flight_text, periods_text, flights_text, sheet_text, sheet_of}
use Rattle.sheet.proofs.Lines.{text_line, text_none}
use Rattle.sheet.proofs.Grammar.{periods_snoc, flights_snoc, length_top, length_names, length_closing, flight_length}
use Rattle.sheet_writer.specs.Write.{write_answer, write_after}

-- the closing line

pub closing_length : (k : ℕ) → has_line k ≡ true → length (closing_text k) ≡ 8 + length (ended 10 k)
closing_length k h = rw (text_line k (ltb-true k unlimited h), length-append, length_closing)

pub closing_put : {o o1 o2 : List ℕ} {at a r : ℕ} (k : ℕ) → has_line k ≡ true → at + length (closing_text k) ≤ length o
    → Put o at closing_name a o1 → Put o1 a (ended 10 k) r o2 → Put o at (closing_text k) r o2
closing_put k h g p q = rw (text_line k (ltb-true k unlimited h)) (then (omega (arith, closing_length k h, length_closing)) p q)

pub no_closing : (k : ℕ) → has_line k ≡ false → closing_text k ≡ []
no_closing k h = text_none k (ltb-false k unlimited h)

pub closing_none : (o : List ℕ) (at k : ℕ) → has_line k ≡ false → at + length (closing_text k) ≤ length o → Put o at (closing_text k) at o
closing_none o at k h g = rw (no_closing k h) (put_none o at (omega arith))

-- one line

pub flight_put : {o o1 o2 o3 : List ℕ} {at a b r : ℕ} (f : Flight) → at + length (flight_text f) ≤ length o → Put o at (separated (before_limit f)) a o1
    → Put o1 a (limit_text f.limit) b o2 → Put o2 b (ended 10 f.late) r o3 → Put o at (flight_text f) r o3
unfolding flight_text
flight_put f h p q t =
    let l = flight_length f in
    rw append_assoc at (then (simp length-append (omega arith)) (then (omega arith) p q) t)

-- one line more

periods_append : (j : ℕ) (xs ys : List ℕ) → periods_text j (xs ++ ys) ≡ periods_text j xs ++ periods_text (j + length xs) ys
unfolding periods_text
periods_append j [] ys = let z : j + 0 ≡ j = omega arith in rw z
periods_append j (x ∷ xs) ys = let z : suc j + length xs ≡ j + suc (length xs) = omega arith in rw (periods_append (suc j) xs ys, z, append_assoc)

pub period_part : (caps : List ℕ) (i : ℕ) → i < length caps
    → (periods_text 1 (take (i + 1) caps) ≡ periods_text 1 (take i caps) ++ period_text (i + 1) (get_or caps i 0))
    × (length (periods_text 1 (take i caps)) + length (period_text (i + 1) (get_or caps i 0)) ≤ length (periods_text 1 caps))
period_part caps i h =
    let l : length (take i caps) ≡ i = length-take-le i caps (omega arith) in
    let z : 1 + i ≡ i + 1 = omega arith in
    let e : take (i + 1) caps ≡ take i caps ++ (get_or caps i 0 ∷ []) = rw add-one (take-suc caps i 0 h) in
    let a : periods_text 1 (take (i + 1) caps) ≡ periods_text 1 (take i caps) ++ period_text (i + 1) (get_or caps i 0) = rw e (periods_snoc 1 (take i caps) (get_or caps i 0) ∙ rw (l, z)) in
    let b = rw take-append-drop at (periods_append 1 (take (i + 1) caps) (drop (i + 1) caps)) in
    let c = simp length-append at (ap length b) in
    let d = simp length-append at (ap length a) in
    (a, omega arith)

pub flight_part : (row : List ℕ) (i : ℕ) → flights_text (first_flights (i + 1) row) ≡ flights_text (first_flights i row) ++ flight_text (flight_at row i)
unfolding first_flights
flight_part row i = rw add-one (flights_snoc (first_flights i row) (flight_at row i))

flights_grow : (row : List ℕ) (i k : ℕ) → length (flights_text (first_flights i row)) ≤ length (flights_text (first_flights (i + k) row))
flights_grow row i zero = let z : i + 0 ≡ i = omega arith in rw z (omega arith)
flights_grow row i (suc k) =
    let z : i + suc k ≡ i + k + 1 = omega arith in
    rw (z, flight_part row (i + k), length-append) (omega (arith, flights_grow row i k))

pub flight_room : (row : List ℕ) (i n : ℕ) → i < n
    → length (flights_text (first_flights i row)) + length (flight_text (flight_at row i)) ≤ length (flights_text (first_flights n row))
flight_room row i n h =
    let z : i + 1 + (n - (i + 1)) ≡ n = omega arith in
    let g = rw z at (flights_grow row (i + 1) (n - (i + 1))) in
    let d = simp length-append at (ap length (flight_part row i)) in
    omega arith

pub no_periods : periods_text 1 [] ≡ []
unfolding periods_text
no_periods = refl

pub no_flights : (row : List ℕ) → flights_text (first_flights 0 row) ≡ []
unfolding flights_text first_flights
no_flights row = refl

-- the whole

length_sheet : (caps : List ℕ) (fs : List Flight) (k : ℕ)
    → length (sheet_text caps fs k) ≡ length (periods_text 1 caps) + length (flights_text fs) + length (closing_text k) + 54
unfolding sheet_text
length_sheet caps fs k = simp length-append (omega (arith, length_top, length_names))

-- the parts of a day's sheet
module _ (d : Day) where
  pub length_parts : length (sheet_of d) ≡ length (periods_text 1 d.capacities) + length (flights_text (first_flights (N d) d.flights)) + length (closing_text d.closing) + 54
  unfolding sheet_of flights_of
  length_parts = length_sheet d.capacities (first_flights (N d) d.flights) d.closing

  pub sheet_room : {m : ℕ} → length (sheet_of d) ≤ m
      → length period_names + length (periods_text 1 d.capacities) + length (closing_text d.closing) + length flight_names + length (flights_text (first_flights (N d) d.flights)) ≤ m
  sheet_room h = omega (arith, length_parts, length_top, length_names)

  pub sheet_put : {o o1 o2 o3 o4 o5 : List ℕ} {a1 a2 a3 a4 a5 : ℕ} → length (sheet_of d) ≤ length o
      → Put o 0 period_names a1 o1 → Put o1 a1 (periods_text 1 d.capacities) a2 o2 → Put o2 a2 (closing_text d.closing) a3 o3 → Put o3 a3 flight_names a4 o4
      → Put o4 a4 (flights_text (first_flights (N d) d.flights)) a5 o5 → Put o 0 (sheet_of d) a5 o5
  unfolding sheet_text sheet_of flights_of
  sheet_put {o} h d1 e2 e3 e4 e5 =
      let g = sheet_room h in
      let d2 = then (omega arith) d1 e2 in
      let d3 = then (simp length-append (omega arith)) d2 e3 in
      let d4 = then (simp length-append (omega arith)) d3 e4 in
      let d5 = then (simp length-append (omega arith)) d4 e5 in
      simp append_assoc at d5

-- the outcomes of the call
module _ (d : Day) (buffer : List ℕ) (place : ℕ) where
  pub bad_day : valid d ≡ false → (Err BadDay ≡ write_answer d buffer place) × (buffer ≡ write_after d buffer place)
  unfolding write_answer write_after
  bad_day e = rw e (refl, refl)

  module _ (v : valid d ≡ true) where
    pub all_written : {k r : ℕ} {out : List ℕ} → k ≡ length (sheet_of d) → place + k ≤ length buffer → Put buffer place (sheet_of d) r out
        → (Ok k ≡ write_answer d buffer place) × (out ≡ write_after d buffer place)
    unfolding write_answer write_after
    all_written e h p = rw (v, e) (it_fits buffer (sheet_of d) place (rw e at h) p)
