-- The search for a repeated flight number: flights chained by the residue of their number. Only private contracts cite it.
-- Assumes nothing.
use Rattle.std.specs.Prelude.{◌≡◌, true, List, ℕ, ◌*◌, ◌%◌, ◌≤◌, length, get_or}
use Rattle.assignment.specs.Chains.{Chained}
use Rattle.day.specs.Day.{number_of, width, most_flights, all, is_new}

-- how many chains there are; a flight stands in that of its number's residue
abbrev pub chains : ℕ
chains = 256

abbrev pub chain : List ℕ → ℕ → ℕ
chain flights i = number_of flights i % chains

-- the rows chain the flights above table place i
pub record Linked (flights nearest above : List ℕ) (i : ℕ) : Type 0 where
  pub heads : length nearest ≡ chains
  pub places : length above ≡ most_flights
  pub few : i ≤ most_flights
  pub chained : Chained (chain flights) chains (λ q. get_or nearest q 0) (λ s. get_or above s 0) i

-- the flights above table place i, of n, are chained and have numbers of their own
pub record Passed (flights : List ℕ) (n : ℕ) (nearest above : List ℕ) (i : ℕ) : Type 0 where
  pub rows : n * width ≤ length flights
  pub most : n ≤ most_flights
  pub upto : i ≤ n
  pub linked : Linked flights nearest above i
  pub own : all i (is_new flights) ≡ true
