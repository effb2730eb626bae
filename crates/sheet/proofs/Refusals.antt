-- A sheet that is not read is refused by a number of the table above 0: no refusal is the answer to a call that was accepted.
-- Assumes nothing.
use Prim.Native.Nat.{ℕ, zero, suc, ◌<◌, ◌+◌}
use mathlib.Core.List.{List, [], ◌∷◌, ◌++◌}
use mathlib.Core.Bool.{Bool, true, false, cond, ◌&&◌}
use lib.ListN.{length, drop}
use lib.Dec.{ltb, leb, eqb, lit<}
use Rattle.answers.specs.Answers.{refusal_code}
use Rattle.text.specs.Fixed.{starts_with}
use Rattle.text.specs.declared.Number.{Number}
use Rattle.std.specs.Prelude.{Option, Some, None}
use Rattle.day.specs.declared.Flight.{Flight}
use Rattle.day.specs.Day.{unlimited, most_periods, most_flights, flight_fits}
use Rattle.sheet.specs.declared.PeriodLine.{PeriodLine}
use Rattle.sheet.specs.declared.FlightLine.{FlightLine}
use Rattle.sheet.specs.Text.{period_names, flight_names, closing_name}
use Rattle.sheet.specs.Lines.{period_line, closing_line, flight_line, used}
use Rattle.sheet.specs.Sheet.{Reading, read, refused, on_flight, read_flights, named, on_closing, ends_periods, periods_end, on_period, read_periods, read_sheet}

-- a reading's refusal, if it is one, has a number above 0
abbrev pub Numbered : Reading → Type 0
Numbered (read capacities flights closing) = Unit
Numbered (refused a) = 0 < (refusal_code a).number

either : (b : Bool) (x y : Reading) → Numbered x → Numbered y → Numbered (cond b x y)
either true x y p q = p
either false x y p q = q

on_flight_lem : (at : ℕ) (capacities : List ℕ) (above : List Flight) (l : Option FlightLine) (go : Flight → ℕ → Reading)
    → ((f : Flight) (next : ℕ) → Numbered (go f next)) → Numbered (on_flight at capacities above l go)
on_flight_lem at capacities above None go p = lit< tt
on_flight_lem at capacities above (Some l) go p =
    either (flight_fits (length capacities) l.flight) _ _ (either (used l.flight.number above) _ _ (lit< tt) (p l.flight l.next)) (lit< tt)

flights_numbered : (k : ℕ) (s : List ℕ) (at : ℕ) (capacities : List ℕ) (closing : ℕ) (above : List Flight)
    → Numbered (read_flights k s at capacities closing above)
unfolding read_flights
flights_numbered zero s at capacities closing above = either (eqb at (length s)) _ _ tt (lit< tt)
flights_numbered (suc k) s at capacities closing above =
    either (eqb at (length s)) _ _ tt
    (on_flight_lem at capacities above (flight_line s at) _ (λ f next. flights_numbered k s next capacities closing (above ++ (f ∷ []))))

named_numbered : (s : List ℕ) (at : ℕ) (capacities : List ℕ) (closing : ℕ) → Numbered (named s at capacities closing)
unfolding named
named_numbered s at capacities closing =
    either (starts_with (drop at s) flight_names) _ _ (flights_numbered most_flights s (at + length flight_names) capacities closing []) (lit< tt)

on_closing_lem : (at : ℕ) (l : Option Number) (go : ℕ → ℕ → Reading) → ((c next : ℕ) → Numbered (go c next)) → Numbered (on_closing at l go)
on_closing_lem at None go p = lit< tt
on_closing_lem at (Some l) go p = either (leb l.n 255) _ _ (p l.n l.next) (lit< tt)

end_numbered : (s : List ℕ) (at : ℕ) (capacities : List ℕ) → Numbered (periods_end s at capacities)
unfolding periods_end
end_numbered s at capacities =
    either (eqb (length capacities) 0) _ _ (lit< tt)
    (either (starts_with (drop at s) closing_name) _ _ (on_closing_lem at (closing_line s at) _ (λ c next. named_numbered s next capacities c)) (named_numbered s at capacities unlimited))

on_period_lem : (at : ℕ) (above : List ℕ) (l : Option PeriodLine) (go : ℕ → ℕ → Reading)
    → ((c next : ℕ) → Numbered (go c next)) → Numbered (on_period at above l go)
on_period_lem at above None go p = lit< tt
on_period_lem at above (Some l) go p = either (eqb l.number (length above + 1) && leb l.capacity 255) _ _ (p l.capacity l.next) (lit< tt)

periods_numbered : (k : ℕ) (s : List ℕ) (at : ℕ) (above : List ℕ) → Numbered (read_periods k s at above)
unfolding read_periods
periods_numbered zero s at above =
    either (ends_periods s at) _ _ (end_numbered s at above) (either (eqb at (length s)) _ _ (lit< tt) (lit< tt))
periods_numbered (suc k) s at above =
    either (ends_periods s at) _ _ (end_numbered s at above)
    (on_period_lem at above (period_line s at) _ (λ c next. periods_numbered k s next (above ++ (c ∷ []))))

pub sheet_numbered : (s : List ℕ) → Numbered (read_sheet s)
unfolding read_sheet
sheet_numbered s =
    either (ltb 8192 (length s)) _ _ (lit< tt)
    (either (starts_with s period_names) _ _ (periods_numbered most_periods s (length period_names) []) (lit< tt))
