-- The laws of waiting and left over, and of the row in which they are kept.
-- Assumes nothing.
use mathlib.Core.Path.{◌≡◌, refl, ◌∙◌}
use mathlib.Core.Logic.{inl, inr}
use mathlib.Core.List.{List}
use Prim.Native.Nat.{ℕ, zero, suc, ◌+◌, ◌-◌, ◌*◌, ◌≤◌, min}
use native.Mathlib.Omega.{arith}
use native.Mathlib.Numerals.{add-one, sub-one}
use lib.ListN.{length, set, length-set}
use Rattle.assignment.specs.Rows.{el}
use Rattle.assignment.specs.Moves.{Moved}
use Rattle.assignment.proofs.Rows.{set_moved}
use Rattle.assignment.proofs.Tests.{eq?}
use Rattle.day.specs.Day.{of_period}
use Rattle.forecast_plan.specs.Forecast.{left_over, waiting, first_room}
use Rattle.forecast_plan.specs.Loop.{Behind, Turn}
use Rattle.forecast_plan.proofs.Landing.{room_from}

module _ (held_to : ℕ → ℕ) (capacities : List ℕ) where
  -- "left over .. 0 before period 1"
  pub none_left_over : (j : ℕ) → j ≡ 0 → 0 ≡ left_over (waiting held_to capacities j) (of_period capacities j)
  unfolding waiting
  none_left_over j e = rw e (omega arith)

  pub waiting_next : (j : ℕ) → waiting held_to capacities (j + 1) ≡ held_to (j + 1) + left_over (waiting held_to capacities j) (of_period capacities j)
  unfolding waiting
  waiting_next j = rw (add-one j)

  pub waiting_here : (j : ℕ) {r : ℕ} → 1 ≤ j → r ≡ left_over (waiting held_to capacities (j - 1)) (of_period capacities (j - 1))
      → held_to j + r ≡ waiting held_to capacities j
  unfolding waiting
  waiting_here zero some e = absurd (omega arith)
  waiting_here (suc j) some e = rw e (rw sub-one)

  -- no more wait than are held to the periods so far
  pub waiting_most : (b : ℕ) → ((k : ℕ) → held_to k ≤ b) → (j : ℕ) → waiting held_to capacities j ≤ j * b
  unfolding waiting
  waiting_most b few zero = omega arith
  waiting_most b few (suc j) = omega (arith, few (suc j), waiting_most b few j)

-- who waits in a period does not depend on later ones
pub waiting_same : (held_to others : ℕ → ℕ) (capacities : List ℕ) (j : ℕ) → ((k : ℕ) → 1 ≤ k → k ≤ j → held_to k ≡ others k)
    → waiting held_to capacities j ≡ waiting others capacities j
unfolding waiting
waiting_same held_to others capacities zero same = refl
waiting_same held_to others capacities (suc j) same =
    rw (same (suc j) (omega arith) (omega arith), waiting_same held_to others capacities j (λ k some l. same k some (omega arith)))

-- ---- the row of a forecast

module _ {held_to capacities waits : List ℕ} {from : ℕ} (t : Turn held_to capacities waits from) where
  -- it is known a period further, once its number is stored
  pub turn_next : (j v : ℕ) → j ≡ from → v ≡ waiting (el held_to) capacities j → j ≤ length capacities
      → Turn held_to capacities (set waits j v) (j + 1)
  turn_next j v is e b = record {
    periods = t.periods;
    counts = t.counts;
    sizes = length-set waits j v ∙ t.sizes;
    known = record {
      each = λ k some l in_day. elim (eq? k j) [
        | inl k-is ↦ rw k-is (m.here ∙ e)
        | inr other ↦ m.others k other ∙ t.known.each k some (omega arith) in_day
      ];
    };
  }
    where
      m : Moved (el waits) (el (set waits j v)) j v
      m = set_moved waits j v (omega (arith, t.sizes, t.periods))

-- ---- behind the periods asked for

-- nothing is behind the last period
pub none_behind : {held_to : ℕ → ℕ} {capacities : List ℕ} {waits : ℕ → ℕ} {p : ℕ} → length capacities ≡ p → Behind held_to capacities waits (p + 1)
none_behind {capacities = capacities} {waits} {p} e = record { each = λ k b in_day. absurd (omega (arith, room_from waits capacities (p + 1))) }

-- the period where the flight that is new lands, or the last one
pub turn_last : {held_to capacities waits : List ℕ} {from j lands : ℕ} → Turn held_to capacities waits from → 1 ≤ from → 1 ≤ length capacities
    → lands ≡ first_room (el waits) capacities from → j ≡ min lands (length capacities) → Turn held_to capacities waits from × (1 ≤ j) × (j ≤ length capacities)
turn_last {capacities = capacities} {waits} {from} t first some e is = (t, omega (arith, e, is, room_from (el waits) capacities from), omega (arith, is))
