-- The text of a plan, as case B of document 01 shows it, and what the call answers and leaves in the buffer.
-- Assumes nothing.
use Rattle.std.specs.Prelude.{ℕ, zero, suc, List, [], ◌∷◌, ◌++◌, Result, Err}
use Rattle.answers.specs.declared.Refusal.{Refusal}
use Rattle.text.specs.Digits.{ended, line, line_end}
use Rattle.text.specs.Writing.{text_answer, text_after}
use Rattle.day.specs.Day.{Day, number_of, due_of, flight_at, flight_count, hold_cost, hold, land_of, total_of}
use Rattle.legality.specs.Check.{plan_check, on_plan}

-- "flight,due,lands,hold,cost" and the end byte
unfoldable pub plan_names : List ℕ
plan_names =
    102 ∷ 108 ∷ 105 ∷ 103 ∷ 104 ∷ 116 ∷ 44 ∷ 100 ∷ 117 ∷ 101 ∷ 44 ∷ 108 ∷ 97 ∷ 110 ∷ 100 ∷ 115 ∷ 44 ∷ 104 ∷ 111 ∷ 108 ∷ 100 ∷ 44 ∷ 99 ∷ 111 ∷ 115 ∷ 116 ∷ 10 ∷ []

-- "total" and the end byte
unfoldable pub total_name : List ℕ
total_name = 116 ∷ 111 ∷ 116 ∷ 97 ∷ 108 ∷ 10 ∷ []

-- the line of the flight at table place i; "lands is the landing period"
unfoldable pub plan_line : (flights holds : List ℕ) → ℕ → List ℕ
plan_line flights holds i =
    line (number_of flights i ∷ due_of flights i ∷ land_of flights holds i ∷ hold holds i ∷ []) (hold_cost (flight_at flights i) (hold holds i))

-- "Flights stand in table order": the lines of n flights from table place i on
unfoldable pub plan_lines : (flights holds : List ℕ) → ℕ → ℕ → List ℕ
plan_lines flights holds zero i = []
plan_lines flights holds (suc n) i = plan_line flights holds i ++ plan_lines flights holds n (suc i)

unfoldable pub plan_text : (flights holds : List ℕ) → List ℕ
plan_text flights holds =
    plan_names ++ (plan_lines flights holds (flight_count flights) 0 ++ (total_name ++ ended line_end (total_of flights holds)))

-- what is found of the day and the hold row comes first (6, 7 for the hold row, 10), "a text's length comes last"
unfoldable pub plan_text_answer : Day → List ℕ → List ℕ → ℕ → Result ℕ Refusal
plan_text_answer d holds buffer place =
    on_plan (plan_check d holds) (λ total. text_answer buffer place (plan_text d.flights holds)) Err

-- the buffer afterwards
unfoldable pub plan_text_after : Day → List ℕ → List ℕ → ℕ → List ℕ
plan_text_after d holds buffer place =
    on_plan (plan_check d holds) (λ total. text_after buffer place (plan_text d.flights holds)) (λ refusal. buffer)
