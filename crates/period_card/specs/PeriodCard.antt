-- The period card: "the eligible set of one period of the quick plan, one mark a flight in two 64-bit words (flight at place i in word
-- i/64, bit i mod 64), and the set's size. A refusal gives 0 for words and size."
-- Assumes nothing.
use Rattle.std.specs.Prelude.{Bool, cond, not, ℕ, zero, suc, ◌+◌, ◌-◌, ◌^◌, min, ltb, Result, Ok, Err}
use Rattle.answers.specs.declared.Refusal.{Refusal}
use Rattle.answers.specs.declared.Refusal.TheVariants.{BadDay, JumpOrLimit, NoSuchPeriod}
use Rattle.assignment.specs.Sum.{gate, sum}
use Rattle.day.specs.Day.{Day, P, N, inside, valid}
use Rattle.day.specs.Plan.{first_jump_or_limit}
use Rattle.quick_plan.specs.Quick.{eligible, rates}
use Rattle.period_card.specs.declared.Marks.{Marks}
use Rattle.period_card.specs.declared.Card.{Card}

-- the word whose bit i, below n, is set where the place from + i is in the set
unfoldable pub word : (ℕ → Bool) → ℕ → ℕ → ℕ
word set from zero = 0
word set from (suc n) = gate (set (from + n)) (2 ^ n) + word set from n

-- the places below n, at most 128, that are in the set
unfoldable pub marks : (ℕ → Bool) → ℕ → Marks
marks set n = record { low = word set 0 (min n 64); high = word set 64 (n - 64) }

-- how many of the places below n are in the set
unfoldable pub size : (ℕ → Bool) → ℕ → ℕ
size set n = sum n (λ i. gate (set i) 1)

-- the card of period j
unfoldable pub card : Day → ℕ → Card
card d j = record { low = (marks (eligible d (rates d) j) (N d)).low; high = (marks (eligible d (rates d) j) (N d)).high; size = size (eligible d (rates d) j) (N d) }

-- what the call gives: refusals 6, 8 and 11, "period 0 or above P", in this order
unfoldable pub period_card : Day → ℕ → Result Card Refusal
period_card d j =
    cond (not (valid d)) (Err BadDay)
    (cond (ltb (first_jump_or_limit d.flights) (N d)) (Err (JumpOrLimit (first_jump_or_limit d.flights)))
    (cond (not (inside 1 (P d) j)) (Err (NoSuchPeriod (P d)))
    (Ok (card d j))))
