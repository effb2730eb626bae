-- Holds for the first flights of a day: when they can be completed to a legal plan, and what they leave of the day.
-- Assumes nothing.
use Rattle.std.specs.Prelude.{◌≡◌, false, cond, List, ℕ, ◌+◌, ◌-◌, ◌*◌, ◌<◌, get_or, take, drop}
use Rattle.assignment.specs.Sum.{count}
use Rattle.assignment.specs.Rows.{row}
use Rattle.day.specs.Day.{Day, day, P, width, takes, has_line, counted, hold, land}
use Rattle.day.specs.Plan.{Legal, breaks}

-- some legal plan gives the first i flights the same holds
pub record Completed (d : Day) (holds : List ℕ) (i : ℕ) : Type 0 where
  pub plan : List ℕ
  pub legal : Legal d plan
  pub same : (j : ℕ) → j < i → hold plan j ≡ hold holds j

-- the holds of the first i flights break nothing, as the walk of refusal 10 has it
pub record Unbroken (d : Day) (holds : List ℕ) (i : ℕ) : Type 0 where
  pub none : (j : ℕ) → j < i → breaks d holds j ≡ false

-- how many may land yet in each period that is counted: its number less the landings of the first i flights
unfoldable pub places_left : Day → List ℕ → ℕ → List ℕ
places_left d holds i = row (counted d) (λ k. takes d (k + 1) - count i (land d holds) (k + 1))

-- the day of the places left and the flights from table place i on; a closing period that is not counted takes everyone yet
abbrev pub rest_of : (left flights : List ℕ) (p closing i : ℕ) → Day
rest_of left flights p closing i = day (take p left) (drop (i * width) flights) (cond (has_line closing) (get_or left p 0) closing)

-- the rest of the day: "remaining capacities, remaining flights"
abbrev pub rest : Day → List ℕ → ℕ → Day
rest d holds i = rest_of (places_left d holds i) d.flights (P d) d.closing i
