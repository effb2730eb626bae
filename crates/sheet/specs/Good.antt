-- A day within the table's ranges, as lists of capacities and flights and its closing number. Only proofs cite it: sheet/proofs/Good has
-- that it is the day check.
-- Assumes nothing.
use Rattle.std.specs.Prelude.{ℕ, ◌≤◌, ◌<◌, ◌≡◌, List, [], ◌∷◌, ◌++◌, Bool, true, not, ◌&&◌, ◌||◌, leb, length}
use Rattle.text.specs.Digits.{digits}
use Rattle.text.specs.Standing.{AllShort}
use Rattle.day.specs.declared.Flight.{Flight}
use Rattle.day.specs.Day.{unlimited, most_periods, most_flights, missing, flight_fits}
use Rattle.sheet.specs.Text.{before_limit}
use Rattle.sheet.specs.Lines.{most_digits, used}

-- no flight has a number that is used above it
unfoldable pub distinct : List Flight → List Flight → Bool
distinct above [] = true
distinct above (f ∷ fs) = not (used f.number above) && distinct (above ++ (f ∷ [])) fs

unfoldable pub caps_fit : List ℕ → Bool
caps_fit [] = true
caps_fit (c ∷ cs) = leb c 255 && caps_fit cs

unfoldable pub flights_fit : ℕ → List Flight → Bool
flights_fit p [] = true
flights_fit p (f ∷ fs) = flight_fits p f && flights_fit p fs

pub record Good (caps : List ℕ) (fs : List Flight) (closing : ℕ) : Type 0 where
  pub some_period : 0 < length caps
  pub periods : length caps ≤ most_periods
  pub flights : length fs ≤ most_flights
  pub closing_to : closing ≤ unlimited
  pub caps_fit_in : caps_fit caps ≡ true
  pub flights_fit_in : flights_fit (length caps) fs ≡ true
  pub apart : distinct [] fs ≡ true

abbrev pub limit_fits : ℕ → Bool
limit_fits l = leb l 96 || missing l

-- what the ranges give of a flight's numbers as they are written
pub record Small (f : Flight) : Type 0 where
  pub numbers : AllShort most_digits (before_limit f)
  pub limit : limit_fits f.limit ≡ true
  pub late : length (digits f.late) ≤ 3
