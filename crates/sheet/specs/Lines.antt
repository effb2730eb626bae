-- One line read at a place: its values and where the next line begins, or that it has not the line's form.
-- Assumes nothing.
use Rattle.std.specs.Prelude.{ℕ, ◌+◌, List, [], ◌∷◌, Bool, false, cond, ◌||◌, leb, eqb, length, get_or, Option, Some, None}
use Rattle.text.specs.Digits.{comma, line_end}
use Rattle.text.specs.Reading.{some_number, field, Numbers, whole, upto, separated_at, Line, values, no_line, line_at}
use Rattle.text.specs.declared.Number.{Number}
use Rattle.day.specs.declared.Flight.{Flight}
use Rattle.sheet.specs.Text.{closing_name}
use Rattle.sheet.specs.declared.PeriodLine.{PeriodLine}
use Rattle.sheet.specs.declared.FlightLine.{FlightLine}

-- "Numbers are base ten, 1 to 7 digits"
abbrev pub most_digits : ℕ
most_digits = 7

-- a period line that was read
abbrev pub some_period_line : (number capacity next : ℕ) → Option PeriodLine
some_period_line number capacity next = Some (record { number = number; capacity = capacity; next = next })

abbrev pub period_of : Line → Option PeriodLine
period_of (values numbers capacity next) = some_period_line (get_or numbers 0 0) capacity next
period_of no_line = None

-- a period line: its number, its capacity and the place behind it
unfoldable pub period_line : List ℕ → ℕ → Option PeriodLine
period_line s at = period_of (line_at 1 most_digits s at)

-- a line that begins "closing,": the number behind that and the place behind the line, or `None` where the line is not of the form
-- `closing,c` (#108)
unfoldable pub closing_line : List ℕ → ℕ → Option Number
closing_line s at = field most_digits line_end s (at + length closing_name)

-- a written limit as it is in memory: 256, which is in no range, for one above 96, since 255 in memory means missing
unfoldable pub limit_read : ℕ → ℕ
limit_read n = cond (leb n 96) n 256

abbrev pub with_limit : Option Number → Option Number
with_limit (Some p) = some_number (limit_read p.n) p.next
with_limit None = None

-- the limit's field: "A missing limit is the single byte `-`" (45), else a number
unfoldable pub limit_field : List ℕ → ℕ → Option Number
limit_field s at =
    cond (eqb (get_or s at 0) 45) (cond (eqb (get_or s (at + 1) 0) comma) (some_number 255 (at + 2)) None) (with_limit (field most_digits comma s at))

-- the flight of the five numbers before the limit, the limit and the late
abbrev pub flight_with : List ℕ → ℕ → ℕ → Flight
flight_with numbers limit late = record {
  number = get_or numbers 0 0;
  due = get_or numbers 1 0;
  rate = get_or numbers 2 0;
  after = get_or numbers 3 0;
  jump = get_or numbers 4 0;
  limit = limit;
  late = late;
}

-- a flight line that was read
abbrev pub some_flight_line : Flight → ℕ → Option FlightLine
some_flight_line f next = Some (record { flight = f; next = next })

abbrev pub row_with : List ℕ → ℕ → Option Number → Option FlightLine
row_with numbers limit (Some p) = some_flight_line (flight_with numbers limit p.n) p.next
row_with numbers limit None = None

abbrev pub then_late : List ℕ → Option Number → (ℕ → Option Number) → Option FlightLine
then_late numbers (Some p) late = row_with numbers p.n (late p.next)
then_late numbers None late = None

abbrev pub then_limit : Numbers → (limit late : ℕ → Option Number) → Option FlightLine
then_limit (whole numbers next) limit late = then_late numbers (limit next) late
then_limit (upto numbers) limit late = None

-- a flight line: its flight and the place behind it
unfoldable pub flight_line : List ℕ → ℕ → Option FlightLine
flight_line s at = then_limit (separated_at 5 most_digits s at) (limit_field s) (field most_digits line_end s)

-- "flight number used above"
unfoldable pub used : ℕ → List Flight → Bool
used n [] = false
used n (f ∷ fs) = eqb f.number n || used n fs
