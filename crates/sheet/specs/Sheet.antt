-- A whole sheet read, its closing line (#108) included, in document 01's order of tests: "then 1, then lines from the top, in each line
-- 5, 2, 3, 4".
-- Assumes nothing.
use Rattle.std.specs.Prelude.{ℕ, zero, suc, ◌+◌, ◌*◌, List, [], ◌∷◌, ◌++◌, Bool, cond, ◌&&◌, ◌||◌, ltb, leb, eqb, length, drop, Option, Some, None, Result, Ok, Err}
use Rattle.answers.specs.declared.Refusal.{Refusal}
use Rattle.answers.specs.declared.Refusal.TheVariants.{TooLong, BadForm, OutOfRange, NumberUsed, BadCount, BadLength}
use Rattle.text.specs.Fixed.{starts_with}
use Rattle.text.specs.declared.Number.{Number}
use Rattle.day.specs.declared.Flight.{Flight}
use Rattle.day.specs.Day.{unlimited, most_periods, most_flights, width, flight_fits}
use Rattle.day.specs.Flights.{row_of}
use Rattle.sheet.specs.declared.PeriodLine.{PeriodLine}
use Rattle.sheet.specs.declared.FlightLine.{FlightLine}
use Rattle.sheet.specs.declared.SheetRead.{SheetRead}
use Rattle.sheet.specs.Text.{period_names, flight_names, closing_name}
use Rattle.sheet.specs.Lines.{period_line, closing_line, flight_line, used}

-- the day's capacities, its flights and its closing number, or why there is no day
pub data Reading : Type 0 where
  read : List ℕ → List Flight → ℕ → Reading
  refused : Refusal → Reading

-- a flight line that begins at `at`: 2, 3 and 4, else what follows it
abbrev pub on_flight : ℕ → List ℕ → List Flight → Option FlightLine → (Flight → ℕ → Reading) → Reading
on_flight at capacities above None go = refused (BadForm at)
on_flight at capacities above (Some l) go =
    cond (flight_fits (length capacities) l.flight) (cond (used l.flight.number above) (refused (NumberUsed at)) (go l.flight l.next)) (refused (OutOfRange at))

-- at most k more flight lines, after the flights above; 5 "where anything follows 128 flight lines"
unfoldable pub read_flights : ℕ → List ℕ → ℕ → List ℕ → ℕ → List Flight → Reading
read_flights zero s at capacities closing above = cond (eqb at (length s)) (read capacities above closing) (refused (BadCount at))
read_flights (suc k) s at capacities closing above =
    cond (eqb at (length s)) (read capacities above closing)
    (on_flight at capacities above (flight_line s at) (λ f next. read_flights k s next capacities closing (above ++ (f ∷ []))))

-- only the second names line may stand at `at`, "else 2"; the flight lines follow it
unfoldable pub named : List ℕ → ℕ → List ℕ → ℕ → Reading
named s at capacities closing =
    cond (starts_with (drop at s) flight_names) (read_flights most_flights s (at + length flight_names) capacities closing []) (refused (BadForm at))

-- a closing line that begins at `at`: 2 and 3, else what follows it
abbrev pub on_closing : ℕ → Option Number → (ℕ → ℕ → Reading) → Reading
on_closing at None go = refused (BadForm at)
on_closing at (Some p) go = cond (leb p.n 255) (go p.n p.next) (refused (OutOfRange at))

-- "The second names line ends the period lines.", and so does "any line beginning `closing,`" between the two names lines (#108)
unfoldable pub ends_periods : List ℕ → ℕ → Bool
ends_periods s at = starts_with (drop at s) flight_names || starts_with (drop at s) closing_name

-- such a line begins at `at`: 5 "where the second names line follows the first directly", and a closing line "straight after the first
-- names line .. gets 5" too; else a closing line is read, "and only the second names line may follow it" (#108); without one the number is
-- 256
unfoldable pub periods_end : List ℕ → ℕ → List ℕ → Reading
periods_end s at capacities =
    cond (eqb (length capacities) 0) (refused (BadCount at))
    (cond (starts_with (drop at s) closing_name) (on_closing at (closing_line s at) (λ c next. named s next capacities c)) (named s at capacities unlimited))

-- a period line that begins at `at`: 2 and 3, else what follows it
abbrev pub on_period : ℕ → List ℕ → Option PeriodLine → (ℕ → ℕ → Reading) → Reading
on_period at above None go = refused (BadForm at)
on_period at above (Some l) go = cond (eqb l.number (length above + 1) && leb l.capacity 255) (go l.capacity l.next) (refused (OutOfRange at))

-- at most k more period lines, after the capacities above; 5 where anything but a line that ends them "follows 96 period lines", and 2
-- where the sheet ends there
unfoldable pub read_periods : ℕ → List ℕ → ℕ → List ℕ → Reading
read_periods zero s at above = cond (ends_periods s at) (periods_end s at above) (cond (eqb at (length s)) (refused (BadForm at)) (refused (BadCount at)))
read_periods (suc k) s at above =
    cond (ends_periods s at) (periods_end s at above) (on_period at above (period_line s at) (λ c next. read_periods k s next (above ++ (c ∷ []))))

-- the sheet's grammar
unfoldable pub read_sheet : List ℕ → Reading
read_sheet s =
    cond (ltb 8192 (length s)) (refused TooLong)
    (cond (starts_with s period_names) (read_periods most_periods s (length period_names) []) (refused (BadForm 0)))

-- the reader's call: "the reader tests its rows (7; capacity row first)"
unfoldable pub reading : List ℕ → List ℕ → List ℕ → Reading
reading s capacities flights =
    cond (eqb (length capacities) most_periods) (cond (eqb (length flights) (most_flights * width)) (read_sheet s) (refused (BadLength (most_flights * width))))
    (refused (BadLength most_periods))

-- its answer: P and N, and the closing number that "the reader answers .. beside P and N" (#108); or the refusal
abbrev pub answer_of : Reading → Result SheetRead Refusal
answer_of (read capacities flights closing) = Ok (record { periods = length capacities; flights = length flights; closing = closing })
answer_of (refused a) = Err a

-- the lent rows afterwards: the day and, past it, what stood there; a refusal leaves them
abbrev pub capacities_after : Reading → List ℕ → List ℕ
capacities_after (read capacities flights closing) row = capacities ++ drop (length capacities) row
capacities_after (refused a) row = row

abbrev pub flights_after : Reading → List ℕ → List ℕ
flights_after (read capacities flights closing) row = row_of flights ++ drop (length (row_of flights)) row
flights_after (refused a) row = row
