-- The round trips of a day sheet, its closing number included, as theorems about the grammar and the text of a day.
-- Assumes nothing.
use Prim.Native.Nat.{ℕ, ◌≤◌, ◌*◌}
use native.Mathlib.Omega.{arith}
use mathlib.Core.Path.{◌≡◌, ◌∙◌}
use mathlib.Core.List.{List}
use mathlib.Core.Bool.{true}
use lib.ListN.{length}
use lib.Seq.{take_all}
use Rattle.day.specs.Day.{Day, day, N, valid, width}
use Rattle.day.specs.declared.Flight.{Flight}
use Rattle.day.specs.Flights.{flights_of, row_of}
use Rattle.day.proofs.Flights.{row_front}
use Rattle.sheet.specs.Text.{sheet_of}
use Rattle.sheet.specs.Sheet.{read, read_sheet}
use Rattle.sheet.proofs.Grammar.{read_text, text_read, read_good, sheet_short}
use Rattle.sheet.proofs.Good.{valid_good, good_valid, row_whole, count_row, flights_row}

-- a sheet that is read and written again has the same bytes
pub read_then_written : (sheet capacities : List ℕ) (flights : List Flight) (closing : ℕ) → read_sheet sheet ≡ read capacities flights closing
    → sheet_of (day capacities (row_of flights) closing) ≡ sheet
unfolding sheet_of flights_of
read_then_written sheet capacities flights closing e =
    rw (count_row capacities flights closing, flights_row flights) (read_text sheet capacities flights closing e)

-- and its day is valid
pub read_is_valid : (sheet capacities : List ℕ) (flights : List Flight) (closing : ℕ) → read_sheet sheet ≡ read capacities flights closing
    → valid (day capacities (row_of flights) closing) ≡ true
read_is_valid sheet capacities flights closing e = good_valid capacities flights closing (read_good sheet capacities flights closing e)

-- a valid day, written and read again, is the same day: its capacities, its flights, its closing number ..
pub written_then_read : (d : Day) → valid d ≡ true → read_sheet (sheet_of d) ≡ read d.capacities (flights_of d) d.closing
unfolding sheet_of
written_then_read d e = text_read d.capacities (flights_of d) d.closing (valid_good d e)

-- .. and the row of its flights
pub same_row : (d : Day) → valid d ≡ true → row_of (flights_of d) ≡ d.flights
unfolding flights_of
same_row d e =
    let w = row_whole d e in
    row_front (N d) d.flights (omega arith) ∙ take_all (N d * width) d.flights (omega arith)

-- every written sheet of a valid day is short enough to be read
pub sheet_is_short : (d : Day) → valid d ≡ true → length (sheet_of d) ≤ 8192
unfolding sheet_of
sheet_is_short d e = sheet_short d.capacities (flights_of d) d.closing (valid_good d e)
