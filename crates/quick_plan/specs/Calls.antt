-- What the calls answer, by cases in document 01's order of refusals, and the hold row after them.
-- Assumes nothing.
use Rattle.std.specs.Prelude.{Bool, cond, not, Option, Some, None, Result, Ok, Err, List, ℕ, ◌+◌, ◌-◌, length, ltb, eqb}
use Rattle.answers.specs.Answers.{Outcome, outcome}
use Rattle.answers.specs.declared.Refusal.{Refusal}
use Rattle.answers.specs.declared.Refusal.TheVariants.{BadDay, BadLength, JumpOrLimit, NoPlan}
use Rattle.day.specs.Day.{Day, P, N, valid, total}
use Rattle.day.specs.Plan.{must_land, room, first_of, first_jump_or_limit}
use Rattle.quick_plan.specs.Quick.{left_over, rates, quick}

-- a table place, where it is one of n
abbrev pub place_if : (n place : ℕ) → Option ℕ
place_if n place = cond (ltb place n) (Some place) None

-- what every quick plan tests first: refusals 6, 7 and 8 in this order
unfoldable pub quick_check : Day → List ℕ → Result (Unit {0}) Refusal
quick_check d holds =
    cond (not (valid d)) (Err BadDay)
    (cond (not (eqb (length holds) (N d))) (Err (BadLength (N d)))
    (cond (ltb (first_jump_or_limit d.flights) (N d)) (Err (JumpOrLimit (first_jump_or_limit d.flights)))
    (Ok tt)))

-- a refusal leaves the row as it was
abbrev pub on_quick : Result (Unit {0}) Refusal → List ℕ → Outcome → Outcome
on_quick (Ok _) holds plan = plan
on_quick (Err answer) holds plan = outcome (Err answer) holds

-- of the short stretches that end in period b "the largest first period", or 0 where there are none
unfoldable pub short_from : Day → ℕ → ℕ
short_from d b = b - first_of b (λ k. ltb (room d (b - k) b) (must_land d (b - k) b))

-- "more flights are left than c" (#108)
abbrev pub more_left : Day → (next : ℕ → ℕ → ℕ) → Bool
more_left d next = ltb d.closing (left_over d next)

-- "The quick plans, old and growing, now answer 9" then, and leave the row as it was; on a day without limits a short stretch ends in the
-- closing period
abbrev pub if_room : Day → (next : ℕ → ℕ → ℕ) → List ℕ → Outcome → Outcome
if_room d next holds plan = cond (more_left d next) (outcome (Err (NoPlan (short_from d (P d + 1)) (P d + 1))) holds) plan

-- the quick plan, and its total
unfoldable pub quick_plan : Day → List ℕ → Outcome
quick_plan d holds = on_quick (quick_check d holds) holds (if_room d (rates d) holds (outcome (Ok (total d (quick d))) (quick d)))
