-- One flight more held to a period: it waits there and in every period after it up to the one in which it lands, so that one more waits in
-- these; behind it as many wait as before.
-- Assumes nothing.
use mathlib.Core.Path.{◌≡◌, refl, ap, sym, subst, ◌∙◌}
use mathlib.Core.Logic.{inl, inr}
use mathlib.Core.List.{List}
use Prim.Native.Nat.{ℕ, zero, suc, ◌+◌, ◌-◌, ◌≤◌, ◌<◌}
use native.Mathlib.Omega.{arith}
use lib.ListN.{length}
use borrow.Author.Tests.{le-ltb}
use Rattle.assignment.specs.Rows.{el}
use Rattle.assignment.specs.Moves.{Moved}
use Rattle.assignment.proofs.Tests.{eq?, lt?}
use Rattle.day.specs.Day.{of_period}
use Rattle.forecast_plan.specs.Forecast.{forecast_at, waiting, first_room}
use Rattle.forecast_plan.specs.Loop.{Counts, waits_of, Turns}
use Rattle.forecast_plan.proofs.Turns.{waiting_next, waiting_same}
use Rattle.forecast_plan.proofs.Landing.{room_step, room_from, room_same}
use Rattle.forecast_plan.proofs.Parts.{parted_days}

module _ (held_to more : ℕ → ℕ) (capacities : List ℕ) (q : ℕ) (m : Moved held_to more q (held_to q + 1)) where
  pub more_before : (j : ℕ) → j < q → waiting more capacities j ≡ waiting held_to capacities j
  more_before j b = waiting_same more held_to capacities j (λ k some l. m.others k (λ z. omega arith))

  more_here : 1 ≤ q → waiting more capacities q ≡ waiting held_to capacities q + 1
  more_here some =
      let e : q - 1 + 1 ≡ q = omega arith in
      omega (
        arith,
        waiting_next more capacities (q - 1),
        waiting_next held_to capacities (q - 1),
        more_before (q - 1) (omega arith),
        m.here,
        ap more e,
        ap held_to e,
        ap (waiting more capacities) e,
        ap (waiting held_to capacities) e,
      )

  -- where as many wait in a period from q on, as many wait in all later ones
  same_behind : (k j : ℕ) → q ≤ k → k ≤ j → waiting more capacities k ≡ waiting held_to capacities k → waiting more capacities j ≡ waiting held_to capacities j
  unfolding waiting
  same_behind k zero from to e = refl
  same_behind k (suc j) from to e = elim (eq? k (suc j)) [
    | inl is ↦ subst (λ z. waiting more capacities z ≡ waiting held_to capacities z) is e
    | inr o ↦ rw (m.others (suc j) (λ z. omega arith), same_behind k j from (omega arith) e)
  ]

  -- one more waits in period k: if there is room, one more lands, and nobody more is left over; else one more waits in the next one
  more_behind : (n k : ℕ) → k + n ≡ length capacities + 1 → q ≤ k → waiting more capacities k ≡ waiting held_to capacities k + 1
      → (j : ℕ) → first_room (waiting held_to capacities) capacities k < j → j ≤ length capacities → waiting more capacities j ≡ waiting held_to capacities j
  more_behind zero k e from one j b to = absurd (omega (arith, room_from (waiting held_to capacities) capacities k))
  more_behind (suc n) k e from one j b to =
      let next = waiting_next more capacities k in
      let was = waiting_next held_to capacities k in
      let held = m.others (k + 1) (λ z. omega arith) in
      elim (lt? (waiting held_to capacities k) (of_period capacities k)) [
        | inl room ↦ same_behind (k + 1) j (omega arith) (omega (arith, room_from (waiting held_to capacities) capacities k)) (omega (arith, next, was, held, one))
        | inr full ↦
            let further = room_step (waiting held_to capacities) capacities k (omega arith) in
            more_behind n (k + 1) (omega arith) (omega arith) (omega (arith, next, was, held, one)) j (rw (rw (le-ltb _ _ full) at further) at b) to
      ]

  pub more_after : 1 ≤ q → q ≤ length capacities + 1 → (j : ℕ) → first_room (waiting held_to capacities) capacities q < j → j ≤ length capacities
      → waiting more capacities j ≡ waiting held_to capacities j
  more_after some in_day = more_behind (length capacities + 1 - q) q (omega arith) (omega arith) (more_here some)

-- ---- the rows of all forecasts

pub turns_more : {p n : ℕ} {rows held_to more waits : List ℕ} (q : ℕ) → Turns p n rows held_to waits (p + 1) → Counts more
    → Moved (el held_to) (el more) q (el held_to q + 1) → 1 ≤ q → q ≤ p + 1 → Turns p n rows more waits q
turns_more {p} {n} {rows} {held_to} {more} {waits} q t counts m some in_day = record {
  parted = t.parted;
  counts = counts;
  known = λ s b. record { each = λ k one before to. is s b k one to ∙ sym (more_before (el held_to) (el more) (forecast_at p rows s) q m k before) };
  behind = λ s b. record {
    each = λ k after to.
        is s b k (omega arith) to
        ∙ sym (more_after (el held_to) (el more) (forecast_at p rows s) q m some (omega (arith, parted_days t.parted b)) k
        (rw (room_same (waits_of waits s) (waiting (el held_to) (forecast_at p rows s)) (forecast_at p rows s) q (λ j from by. is s b j (omega arith) by)) at after) to);
  };
}
  where
    is : (s : ℕ) → s < n → (k : ℕ) → 1 ≤ k → k ≤ length (forecast_at p rows s) → waits_of waits s k ≡ waiting (el held_to) (forecast_at p rows s) k
    is s b k one to = (t.known s b).each k one (omega (arith, parted_days t.parted b)) to
