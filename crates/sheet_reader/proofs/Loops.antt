-- The reader's loops: what is known where a turn begins, and one law for each way through a turn.
-- Assumes nothing.
use Prim.Native.Nat.{ℕ, zero, suc, ◌≤◌, ◌<◌, ◌+◌, ◌-◌, ◌*◌}
use native.Mathlib.Omega.{arith}
use native.Mathlib.Numerals.{add-one}
use mathlib.Core.Path.{◌≡◌, refl, ap, ◌∙◌}
use mathlib.Core.List.{List, [], ◌∷◌, ◌++◌}
use mathlib.Core.Bool.{Bool, true, false}
use lib.ListN.{length, take, drop, set, length-take, length-set}
use lib.Seq.{take-suc-set, length-take-le}
use lib.Dec.{eqb}
use borrow.Author.Tests.{le-leb, lt-leb, eq-eqb, ne_eqb, lt-ltb, le-ltb}
use Rattle.answers.specs.declared.Refusal.{Refusal}
use Rattle.answers.specs.declared.Refusal.TheVariants.{TooLong, BadForm, OutOfRange, NumberUsed, BadCount, BadLength}
use Rattle.text.specs.Fixed.{starts_with}
use Rattle.text.specs.Reading.{field}
use Rattle.text.specs.declared.Number.{Number}
use Rattle.std.specs.Option.{ok_or}
use Rattle.std.specs.Prelude.{Ok, Option, Some, None, Result, Err}
use Rattle.text.proofs.Fixed.{starts_is}
use Rattle.text.proofs.Reading.{within}
use Rattle.day.specs.Day.{unlimited, most_periods, most_flights, width, flight_fits}
use Rattle.day.specs.Flights.{first_flights, with_flight}
use Rattle.day.proofs.Flights.{row_front, length_flights, with_first, with_length}
use Rattle.sheet.specs.declared.PeriodLine.{PeriodLine}
use Rattle.sheet.specs.declared.FlightLine.{FlightLine}
use Rattle.sheet.specs.Text.{period_names, flight_names, closing_name}
use Rattle.sheet.specs.Lines.{most_digits, period_line, closing_line, flight_line, used}
use Rattle.sheet.specs.Sheet.{Reading, read, refused, read_flights, named, ends_periods, periods_end, read_periods, read_sheet, reading}
use Rattle.sheet.proofs.Lines.{names_front, period_read, closing_read, flight_read, fits_small}
use Rattle.sheet.proofs.Grammar.{length_names, length_top, length_closing, front_length}
use Rattle.sheet_reader.specs.Loop.{go_on, Ready, PeriodsRead, NoPeriods, FlightsRead, NoFlights, Outcome}
use Rattle.sheet_reader.specs.declared.Periods.{Periods}

-- the error that stands for a missing value
pub error_is : {T : Type 0} (o : Option T) {a x : Refusal} → o ≡ None → ◌≡◌ {A = Result T Refusal} (Err x) (ok_or o a) → x ≡ a
error_is {T} o {a} {x} n v = let e : ◌≡◌ {A = Result T Refusal} (Err x) (Err a) = rw n at v in cc

-- a refusal where the period lines end: for every row of capacities
abbrev NoEnd : List ℕ → (at n : ℕ) → Refusal → Type 0
NoEnd s at n a = Unit {0} × ((caps : List ℕ) → n ≤ length caps → periods_end s at (take n caps) ≡ refused a)

module _ (s : List ℕ) (at n closing : ℕ) where
  pub names_not : starts_with (drop at s) flight_names ≡ false → Unit {0} × ((caps : List ℕ) → named s at (take n caps) closing ≡ refused (BadForm at))
  unfolding named
  names_not e = (tt, λ caps. rw e)

  module _ (e : starts_with (drop at s) flight_names ≡ true) (h : at ≤ length s) where
    pub names_within : at + 38 ≤ length s
    names_within = omega (arith, front_length s at flight_names _ (names_front s flight_names at e), length_names)

    pub names_on : n ≤ most_periods
        → ((n ≤ most_periods) × (at + 38 ≤ length s)) × ((caps : List ℕ) → named s at (take n caps) closing ≡ read_flights most_flights s (at + 38) (take n caps) closing [])
    unfolding named
    names_on g = ((g, names_within), λ caps. rw (e, length_names))

module _ (s : List ℕ) (at n : ℕ) where
  pub end_first : n ≡ 0 → NoEnd s at n (BadCount at)
  unfolding periods_end
  end_first z = (tt, λ caps h. rw (length-take-le n caps h, eq-eqb n 0 z))

  module _ (z : n ≡ 0 → ⊥) where
    pub end_names : starts_with (drop at s) closing_name ≡ false → (x : Result Periods Refusal) → Ready x s × ((caps : List ℕ) → named s at (take n caps) unlimited ≡ go_on x s caps)
        → Ready x s × ((caps : List ℕ) → n ≤ length caps → periods_end s at (take n caps) ≡ go_on x s caps)
    unfolding periods_end
    end_names e x w = (w.0, λ caps h. rw (length-take-le n caps h, ne_eqb n 0 z, e) (w.1 caps))

    module _ (e : starts_with (drop at s) closing_name ≡ true) where
      pub end_form : closing_line s at ≡ None → NoEnd s at n (BadForm at)
      unfolding periods_end
      end_form p = (tt, λ caps h. rw (length-take-le n caps h, ne_eqb n 0 z, e, p))

      module _ {l : Number} (p : closing_line s at ≡ Some l) where
        pub end_range : 255 < l.n → NoEnd s at n (OutOfRange at)
        unfolding periods_end
        end_range q = (tt, λ caps h. rw (length-take-le n caps h, ne_eqb n 0 z, e, p, lt-leb l.n 255 q))

        pub end_next : l.n ≤ 255 → (x : Result Periods Refusal) → Ready x s × ((caps : List ℕ) → named s l.next (take n caps) l.n ≡ go_on x s caps)
            → Ready x s × ((caps : List ℕ) → n ≤ length caps → periods_end s at (take n caps) ≡ go_on x s caps)
        unfolding periods_end
        end_next q x w = (w.0, λ caps h. rw (length-take-le n caps h, ne_eqb n 0 z, e, p, le-leb l.n 255 q) (w.1 caps))

  -- a line that begins so has its number inside the sheet, and ends there
  module _ (e : starts_with (drop at s) closing_name ≡ true) (h : at ≤ length s) where
    pub name_within : at + length closing_name ≤ length s
    name_within = omega (arith, front_length s at closing_name _ (names_front s closing_name at e), length_closing)

    pub closing_within : (l : Number) → closing_line s at ≡ Some l → l.next ≤ length s
    closing_within l p = within (closing_read s at l.n l.next e p) h

pub closing_at : (s : List ℕ) (at : ℕ) → field most_digits 10 s (at + 8) ≡ closing_line s at
unfolding closing_line
closing_at s at = rw length_closing

pub names_end : (s : List ℕ) (at : ℕ) → starts_with (drop at s) flight_names ≡ true → true ≡ ends_periods s at
unfolding ends_periods
names_end s at e = rw e

pub closing_end : (s : List ℕ) (at : ℕ) → starts_with (drop at s) flight_names ≡ false → {b : Bool} → b ≡ starts_with (drop at s) closing_name → b ≡ ends_periods s at
unfolding ends_periods
closing_end s at e p = rw e p

pub periods_start : (s caps : List ℕ) → length period_names ≤ length s → length caps ≡ most_periods → PeriodsRead s caps 0 16
periods_start s caps h l = record { upto = omega arith; inside = omega (arith, length_top); room = l; so_far = rw length_top refl }

module _ {s caps : List ℕ} {n at : ℕ} (r : PeriodsRead s caps n at) where
  stop : (a : Refusal) → read_periods (most_periods - n) s at (take n caps) ≡ refused a → NoPeriods s caps a
  stop a e = (r.room, (r.so_far ∙ e, tt))

  count_is : length (take n caps) ≡ n
  count_is = length-take-le n caps (omega (arith, r.upto, r.room))

  -- the loop is left at the line that ends the period lines
  pub periods_ended : ends_periods s at ≡ true → (x : Result Periods Refusal) → Ready x s × ((caps : List ℕ) → n ≤ length caps → periods_end s at (take n caps) ≡ go_on x s caps)
      → (length caps ≡ most_periods) × ((read_periods most_periods s (length period_names) [] ≡ go_on x s caps) × Ready x s)
  unfolding read_periods
  periods_ended e x w = (r.room, (r.so_far ∙ (go (most_periods - n) ∙ w.1 caps (omega (arith, r.upto, r.room))), w.0))
    where
      go : (k : ℕ) → read_periods k s at (take n caps) ≡ periods_end s at (take n caps)
      go zero = rw e
      go (suc k) = rw e

  module _ (e : ends_periods s at ≡ false) where
    pub full_end : n ≡ most_periods → at ≡ length s → NoPeriods s caps (BadForm at)
    unfolding read_periods
    full_end h z = let k : most_periods - n ≡ 0 = omega arith in stop (BadForm at) (rw (k, e, eq-eqb at (length s) z))

    pub full_more : n ≡ most_periods → (at ≡ length s → ⊥) → NoPeriods s caps (BadCount at)
    unfolding read_periods
    full_more h z = let k : most_periods - n ≡ 0 = omega arith in stop (BadCount at) (rw (k, e, ne_eqb at (length s) z))

    module _ (f : n ≡ most_periods → ⊥) where
      one_more : most_periods - n ≡ suc (most_periods - (n + 1))
      one_more = omega (arith, r.upto)

      pub period_form : period_line s at ≡ None → NoPeriods s caps (BadForm at)
      unfolding read_periods
      period_form p = stop (BadForm at) (rw (one_more, e, p))

      module _ {l : PeriodLine} (p : period_line s at ≡ Some l) where
        pub period_count : (l.number ≡ n + 1 → ⊥) → NoPeriods s caps (OutOfRange at)
        unfolding read_periods
        period_count z = stop (OutOfRange at) (rw (one_more, e, p, count_is, ne_eqb l.number (n + 1) z))

        pub period_range : l.number ≡ n + 1 → 255 < l.capacity → NoPeriods s caps (OutOfRange at)
        unfolding read_periods
        period_range z q = stop (OutOfRange at) (rw (one_more, e, p, count_is, eq-eqb l.number (n + 1) z, lt-leb l.capacity 255 q))

        pub period_next : l.number ≡ n + 1 → l.capacity ≤ 255 → PeriodsRead s (set caps n l.capacity) (n + 1) l.next
        unfolding read_periods
        period_next z q =
            let t : take (suc n) (set caps n l.capacity) ≡ take n caps ++ (l.capacity ∷ []) = take-suc-set caps n l.capacity (omega (arith, r.upto, r.room)) in
            record {
              upto = omega (arith, r.upto);
              inside = within (period_read s at l.number l.capacity l.next p) r.inside;
              room = rw length-set r.room;
              so_far = r.so_far ∙ rw (one_more, e, p, count_is, eq-eqb l.number (n + 1) z, le-leb l.capacity 255 q, add-one n, t);
            }

pub flights_start : (s : List ℕ) (start p : ℕ) (row : List ℕ) → start ≤ length s → p ≤ most_periods → length row ≡ most_flights * width
    → FlightsRead s start p row 0 start
unfolding first_flights
flights_start s start p row h f l = record { upto = omega arith; inside = h; periods = f; room = l; so_far = λ caps closing k. refl }

module _ {s : List ℕ} {start p : ℕ} {row : List ℕ} {n at : ℕ} (r : FlightsRead s start p row n at) where
  halt : (a : Refusal) → ((caps : List ℕ) (closing : ℕ) → length caps ≡ p → read_flights (most_flights - n) s at caps closing (first_flights n row) ≡ refused a)
      → NoFlights s start p row a
  halt a e = (r.room, (tt, λ caps closing k. r.so_far caps closing k ∙ e caps closing k))

  pub flights_end : length s ≤ at
      → (length row ≡ most_flights * width)
      × ((n ≤ most_flights)
      × ((caps : List ℕ) (closing : ℕ) → length caps ≡ p → read_flights most_flights s start caps closing [] ≡ read caps (first_flights n row) closing))
  unfolding read_flights
  flights_end h = (r.room, (r.upto, λ caps closing k. r.so_far caps closing k ∙ go caps closing (most_flights - n)))
    where
      go : (caps : List ℕ) (closing k : ℕ) → read_flights k s at caps closing (first_flights n row) ≡ read caps (first_flights n row) closing
      go caps closing zero = rw (eq-eqb at (length s) (omega (arith, r.inside)))
      go caps closing (suc k) = rw (eq-eqb at (length s) (omega (arith, r.inside)))

  module _ (g : at < length s) where
    not_end : eqb at (length s) ≡ false
    not_end = ne_eqb at (length s) (λ e. omega arith)

    pub flights_full : n ≡ most_flights → NoFlights s start p row (BadCount at)
    unfolding read_flights
    flights_full h = let k : most_flights - n ≡ 0 = omega arith in halt (BadCount at) (λ caps closing l. rw (k, not_end))

    module _ (h : n ≡ most_flights → ⊥) where
      another : most_flights - n ≡ suc (most_flights - (n + 1))
      another = omega (arith, r.upto)

      pub flight_form : flight_line s at ≡ None → NoFlights s start p row (BadForm at)
      unfolding read_flights
      flight_form e = halt (BadForm at) (λ caps closing l. rw (another, not_end, e))

      module _ {x : FlightLine} (e : flight_line s at ≡ Some x) where
        pub flight_range : flight_fits p x.flight ≡ false → NoFlights s start p row (OutOfRange at)
        unfolding read_flights
        flight_range q = halt (OutOfRange at) (λ caps closing l. rw (another, not_end, e, l, q))

        pub flight_again : flight_fits p x.flight ≡ true → used x.flight.number (first_flights n row) ≡ true → NoFlights s start p row (NumberUsed at)
        unfolding read_flights
        flight_again q u = halt (NumberUsed at) (λ caps closing l. rw (another, not_end, e, l, q, u))

        place : n * width + width ≤ length row
        place = omega (arith, r.room, r.upto)

        pub flight_next : flight_fits p x.flight ≡ true → used x.flight.number (first_flights n row) ≡ false → (after : List ℕ) → after ≡ with_flight row n x.flight
            → FlightsRead s start p after (n + 1) x.next
        unfolding read_flights
        flight_next q u after w = record {
          upto = omega (arith, r.upto);
          inside = within (flight_read s at x.flight x.next e (fits_small p x.flight r.periods q).limit) r.inside;
          periods = r.periods;
          room = rw w (with_length row n x.flight place ∙ r.room);
          so_far = λ caps closing l. r.so_far caps closing l ∙ rw (another, not_end, e, l, q, u, w, with_first row n x.flight place);
        }

-- the whole call

-- a refusal leaves the rows
pub refused_so : {R : Reading} {a : Refusal} {caps flights : List ℕ} → R ≡ refused a → Outcome R caps flights (Err a) caps flights
refused_so e = rw e (refl, (refl, refl))

module _ (s caps flights : List ℕ) where
  pub call_caps : (length caps ≡ most_periods → ⊥) → reading s caps flights ≡ refused (BadLength most_periods)
  unfolding reading
  call_caps h = rw (ne_eqb (length caps) most_periods h)

  module _ (h : length caps ≡ most_periods) where
    pub call_flights : (length flights ≡ most_flights * width → ⊥) → reading s caps flights ≡ refused (BadLength (most_flights * width))
    unfolding reading
    call_flights g = rw (eq-eqb (length caps) most_periods h, ne_eqb (length flights) (most_flights * width) g)

    module _ (g : length flights ≡ most_flights * width) where
      sheet_read : reading s caps flights ≡ read_sheet s
      unfolding reading
      sheet_read = rw (eq-eqb (length caps) most_periods h, eq-eqb (length flights) (most_flights * width) g)

      pub call_long : 8192 < length s → reading s caps flights ≡ refused TooLong
      unfolding read_sheet
      call_long l = sheet_read ∙ rw (lt-ltb 8192 (length s) l)

      module _ (l : length s ≤ 8192) where
        pub call_top : starts_with s period_names ≡ false → reading s caps flights ≡ refused (BadForm 0)
        unfolding read_sheet
        call_top t = sheet_read ∙ rw (le-ltb 8192 (length s) l, t)

        pub call_on : starts_with s period_names ≡ true → reading s caps flights ≡ read_periods most_periods s (length period_names) []
        unfolding read_sheet
        call_on t = sheet_read ∙ rw (le-ltb 8192 (length s) l, t)

pub top_within : (s : List ℕ) → starts_with s period_names ≡ true → length period_names ≤ length s
top_within s e = omega (arith, length-take (length period_names) s, ap length (starts_is s period_names e))

pub read_so : (R : Reading) (C row caps flights : List ℕ) (p n closing : ℕ) → R ≡ read C (first_flights n row) closing → length C ≡ p → n * width ≤ length row
    → (caps' flights' : List ℕ) → caps' ≡ C ++ drop p caps → flights' ≡ take (n * width) row ++ drop (n * width) flights
    → Outcome R caps flights (Ok (record { periods = p; flights = n; closing = closing })) caps' flights'
read_so R C row caps flights p n closing e l h caps' flights' a b =
    let t : length (take (n * width) row) ≡ n * width = length-take-le (n * width) row h in
    rw (e, a, b, l, length_flights n row, row_front n row h, t) (refl, (refl, refl))
