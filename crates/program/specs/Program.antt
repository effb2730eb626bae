-- What the program prints for a sheet: the text of a cheapest plan of the sheet's day, or a refusal's two lines.
-- Assumes nothing.
use Rattle.std.specs.Prelude.{ℕ, ◌*◌, ◌≤◌, ◌<◌, true, ◌≡◌, List, [], length, take}
use Rattle.answers.specs.declared.Refusal.{Refusal}
use Rattle.answers.specs.Answers.{refusal_code}
use Rattle.text.specs.Fixed.{refusal_text}
use Rattle.day.specs.Day.{Day, day, most_periods, most_flights, width, valid}
use Rattle.day.specs.Plan.{Cheapest, Picked}
use Rattle.day.specs.Flights.{row_of}
use Rattle.sheet.specs.Sheet.{Reading, read, refused, read_sheet}
use Rattle.plan_text.specs.PlanText.{plan_text}

-- the first r bytes of a buffer are the text (only inner contracts cite it)
pub record Front (buffer : List ℕ) (r : ℕ) (text : List ℕ) : Type 0 where
  pub within : r ≤ length buffer
  pub bytes : take r buffer ≡ text

-- a valid day of p periods, n flights and this closing number stands at the front of two rows (only inner contracts cite it)
pub record InRows (p n closing : ℕ) (capacity-row flight-row : List ℕ) : Type 0 where
  pub few_periods : p ≤ most_periods
  pub few_flights : n ≤ most_flights
  pub capacities_within : p ≤ length capacity-row
  pub flights_within : n * width ≤ length flight-row
  pub good : valid (day (take p capacity-row) (take (n * width) flight-row) closing) ≡ true

-- a refusal's two lines: its number and its two values
abbrev pub refusal_of : Refusal → List ℕ
refusal_of a = refusal_text (refusal_code a).number (refusal_code a).first (refusal_code a).second

-- what is printed for a day: the text of a cheapest plan or, where there is no legal plan, refusal 9 with the stretch that leaves none
pub data PrintsDay (d : Day) (out : List ℕ) : Type 0 where
  plan : (holds : List ℕ) → Cheapest d holds → out ≡ plan_text d.flights holds → PrintsDay d out
  none : (first last : ℕ) → Picked d first last → out ≡ refusal_text 9 first last → PrintsDay d out

-- what is printed for a sheet that was read, or refused
abbrev pub PrintsReading : Reading → List ℕ → Type 0
PrintsReading (read capacities flights closing) out = PrintsDay (day capacities (row_of flights) closing) out
PrintsReading (refused a) out = out ≡ refusal_of a

-- what is printed for the bytes of a sheet
unfoldable pub Prints : List ℕ → List ℕ → Type 0
Prints sheet out = PrintsReading (read_sheet sheet) out

-- what is handed back to be written, for a buffer of which some bytes were read and a text of some room: what is printed for the bytes that
-- were read (a count beyond the buffer is the whole buffer), or nothing where the text has not the 4,096 bytes that every answer fits
pub data Answered (input : List ℕ) (read room : ℕ) (out : List ℕ) : Type 0 where
  printed : 4096 ≤ room → Prints (take read input) out → Answered input read room out
  no_room : room < 4096 → out ≡ [] → Answered input read room out
