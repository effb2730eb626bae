-- What the reader knows from line to line. Only inner contracts cite it.
-- Assumes nothing.
use Rattle.std.specs.Prelude.{◌≡◌, true, List, [], ◌∷◌, ◌++◌, ℕ, ◌+◌, ◌≤◌, ◌<◌, length, get_or, take, Option, Some, None, Result, Ok, Err}
use Rattle.text.specs.declared.Number.{Number}
use Rattle.text.specs.Digits.{digits, line}
use Rattle.text.specs.Fixed.{starts_with}
use Rattle.text.specs.Standing.{AllShort, Stands}
use Rattle.day.specs.Day.{Day, N, most_periods, most_flights, number_of, due_of, flight_at, flight_count, hold_cost, total_of, total, valid}
use Rattle.day.specs.Plan.{Legal}
use Rattle.legality.specs.Loop.{CanSum}
use Rattle.plan_text.specs.PlanText.{plan_names, plan_lines, plan_text}
use Rattle.completion.specs.Loop.{Partial, MostCompleted}
use Rattle.plan_reader.specs.PlanReading.{LineEnds, WholeLines, PlanBegins, FirstWrongLine}
use Rattle.plan_reader.specs.declared.Front.{Front}
use Rattle.plan_reader.specs.declared.WrongLine.{WrongLine}

-- ---- a flight's line

-- the most digits of a number in a flight's line, and of a total
abbrev pub line_digits : ℕ
line_digits = 7

abbrev pub total_digits : ℕ
total_digits = 9

-- the numbers of the line of the flight at table place i with hold h, but for its cost, and its cost
abbrev pub line_values : List ℕ → ℕ → ℕ → List ℕ
line_values flights i h = number_of flights i ∷ due_of flights i ∷ (due_of flights i + h) ∷ h ∷ []

abbrev pub line_cost : List ℕ → ℕ → ℕ → ℕ
line_cost flights i h = hold_cost (flight_at flights i) h

-- these numbers are those of the flight with the hold that they show
pub record Shows (flights : List ℕ) (i : ℕ) (numbers : List ℕ) (cost : ℕ) : Type 0 where
  pub values : numbers ≡ line_values flights i (get_or numbers 3 0)
  pub cost_is : cost ≡ line_cost flights i (get_or numbers 3 0)

-- a line's numbers have few digits
pub record ShortLine (flights : List ℕ) (i h : ℕ) : Type 0 where
  pub values : AllShort line_digits (line_values flights i h)
  pub cost : length (digits (line_cost flights i h)) ≤ line_digits

-- at `at` stands the line of the flight at table place i with this hold, or the line of no hold that has a short line
abbrev pub HoldRead : (flights text : List ℕ) → ℕ → ℕ → Option Number → Type 0
HoldRead flights text at i (Some p) = Stands (line (line_values flights i p.n) (line_cost flights i p.n)) text at p.next
HoldRead flights text at i None =
    (h next : ℕ) → ShortLine flights i h → Stands (line (line_values flights i h) (line_cost flights i h)) text at next → ⊥

-- ---- the flights' lines

-- the lines of a plan before the total's: the names line and those of the first i flights
abbrev pub front_lines : (flights holds : List ℕ) → ℕ → List ℕ
front_lines flights holds i = plan_names ++ plan_lines flights holds i 0

-- these stand at the front of the text, and the holds that they show break nothing
pub record Read (d : Day) (text holds left : List ℕ) (i at : ℕ) : Type 0 where
  pub partial : Partial d holds left i
  pub stands : Stands (front_lines d.flights holds i) text 0 at

-- no legal plan's text begins with the lines up to the end of one beyond `at`
abbrev pub NoneBeyond : Day → List ℕ → ℕ → Type 0
NoneBeyond d text at = (next : ℕ) → at < next → LineEnds text next → PlanBegins d (take next text) → ⊥

-- so many flights' lines are read, and if not all of them, then no legal plan's text goes on behind them
pub record LinesRead (d : Day) (text holds left : List ℕ) (front : Front) : Type 0 where
  pub read : Read d text holds left front.flights front.at
  pub stopped : front.flights < N d → NoneBeyond d text front.at

-- ---- where a text goes wrong

-- the place behind the lines of the flights that keep their holds in some legal plan; 0 where there is no plan
abbrev pub place_behind : (flights holds : List ℕ) → Option ℕ → ℕ
place_behind flights holds (Some m) = length (front_lines flights holds m)
place_behind flights holds None = 0

pub record BehindMost (d : Day) (holds : List ℕ) (i at : ℕ) : Type 0 where
  pub most : Option ℕ
  pub is_most : MostCompleted d holds i most
  pub place : at ≡ place_behind d.flights holds most

-- ---- behind the flights' lines

-- the lines of all flights stand at the front of the text, and the total can be worked out and has few digits
pub record CanEnd (flights text holds : List ℕ) (at : ℕ) : Type 0 where
  pub can : CanSum flights holds
  pub short : length (digits (total_of flights holds)) ≤ total_digits
  pub stands : Stands (front_lines flights holds (flight_count flights)) text 0 at

-- the text goes with the bytes t in its lines up to `at`, and no further
pub record Diverges (t text : List ℕ) (at : ℕ) : Type 0 where
  pub whole : WholeLines text at
  pub before : starts_with t (take at text) ≡ true
  pub beyond : (next : ℕ) → at < next → LineEnds text next → starts_with t (take next text) ≡ true → ⊥
  pub other : text ≡ t → ⊥

-- the text is the plan's, and this its total; or the line from which on it is not, behind those of the flights
abbrev pub EndRead : (flights text holds : List ℕ) → Result ℕ WrongLine → Type 0
EndRead flights text holds (Ok t) = (text ≡ plan_text flights holds) × (t ≡ total_of flights holds)
EndRead flights text holds (Err wrong) =
    Diverges (plan_text flights holds) text wrong.line × (length (front_lines flights holds (flight_count flights)) ≤ wrong.line)

-- the outcome of a text that goes wrong at a line
abbrev pub wrong_at : ℕ → Result ℕ WrongLine
wrong_at x = Err (record { line = x })

-- ---- the whole text

abbrev pub RowsRead : Day → (text holds : List ℕ) → Result ℕ WrongLine → Type 0
RowsRead d text holds (Ok t) = Legal d holds × ((text ≡ plan_text d.flights holds) × (t ≡ total d holds))
RowsRead d text holds (Err wrong) = FirstWrongLine d text wrong.line × ((plan : List ℕ) → Legal d plan → text ≡ plan_text d.flights plan → ⊥)

-- a hold row of a valid day, and rows that are large enough for any day
pub record LargeRows (d : Day) (holds row left : List ℕ) : Type 0 where
  pub good : valid d ≡ true
  pub each : length holds ≡ N d
  pub row_long : length row ≡ most_flights
  pub left_long : length left ≡ most_periods + 1
