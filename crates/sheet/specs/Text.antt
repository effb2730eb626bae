-- The sheet of a day: document 01, "A line of names, then lines of values in that order, twice over.", and the closing line of #108
-- after the period lines.
-- Assumes nothing.
use Rattle.std.specs.Prelude.{ℕ, suc, cond, List, [], ◌∷◌, ◌++◌}
use Rattle.text.specs.Digits.{ended, separated, line, comma, line_end}
use Rattle.day.specs.Day.{Day, missing, has_line}
use Rattle.day.specs.declared.Flight.{Flight}
use Rattle.day.specs.Flights.{flights_of}

-- "period,capacity" and the end byte
unfoldable pub period_names : List ℕ
period_names = 112 ∷ 101 ∷ 114 ∷ 105 ∷ 111 ∷ 100 ∷ 44 ∷ 99 ∷ 97 ∷ 112 ∷ 97 ∷ 99 ∷ 105 ∷ 116 ∷ 121 ∷ 10 ∷ []

-- "flight,due,rate,after,jump,limit,late" and the end byte: "the names line ends in `limit,late`" (#102)
unfoldable pub flight_names : List ℕ
flight_names =
    102 ∷ 108 ∷ 105 ∷ 103 ∷ 104 ∷ 116 ∷ 44 ∷ 100 ∷ 117 ∷ 101 ∷ 44 ∷ 114 ∷ 97 ∷ 116 ∷ 101 ∷ 44 ∷ 97 ∷ 102 ∷ 116 ∷ 101 ∷ 114 ∷ 44 ∷ 106 ∷ 117 ∷ 109 ∷ 112 ∷ 44 ∷ 108 ∷ 105 ∷ 109 ∷ 105 ∷ 116 ∷ 44 ∷ 108 ∷ 97 ∷ 116 ∷ 101 ∷ 10 ∷ []

-- "closing," (#108): what a closing line begins with
unfoldable pub closing_name : List ℕ
closing_name = 99 ∷ 108 ∷ 111 ∷ 115 ∷ 105 ∷ 110 ∷ 103 ∷ 44 ∷ []

-- "After the period lines a sheet may have `closing,c`, c from 0 to 255; without it the closing period is unlimited as before, and no other
-- text says so" (#108)
unfoldable pub closing_text : ℕ → List ℕ
closing_text c = cond (has_line c) (closing_name ++ ended line_end c) []

-- "A missing limit is the single byte `-`" (45)
unfoldable pub limit_text : ℕ → List ℕ
limit_text l = cond (missing l) (45 ∷ comma ∷ []) (ended comma l)

-- the numbers of a flight line before its limit
abbrev pub before_limit : Flight → List ℕ
before_limit f = f.number ∷ f.due ∷ f.rate ∷ f.after ∷ f.jump ∷ []

-- the "last column `late`" (#102) is never missing
unfoldable pub flight_text : Flight → List ℕ
flight_text f = separated (before_limit f) ++ (limit_text f.limit ++ ended line_end f.late)

unfoldable pub period_text : ℕ → ℕ → List ℕ
period_text j c = line (j ∷ []) c

-- "Period lines count 1, 2, 3 and so on": the lines from period j on
unfoldable pub periods_text : ℕ → List ℕ → List ℕ
periods_text j [] = []
periods_text j (c ∷ cs) = period_text j c ++ periods_text (suc j) cs

unfoldable pub flights_text : List Flight → List ℕ
flights_text [] = []
flights_text (f ∷ fs) = flight_text f ++ flights_text fs

unfoldable pub sheet_text : List ℕ → List Flight → ℕ → List ℕ
sheet_text capacities flights closing =
    period_names ++ (periods_text 1 capacities ++ (closing_text closing ++ (flight_names ++ flights_text flights)))

-- the sheet of a day
unfoldable pub sheet_of : Day → List ℕ
sheet_of d = sheet_text d.capacities (flights_of d) d.closing
