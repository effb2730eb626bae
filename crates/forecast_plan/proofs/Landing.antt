-- The laws of the first period with room.
-- Assumes nothing.
use mathlib.Core.Path.{◌≡◌, ap, sym, ◌∙◌}
use mathlib.Core.Bool.{Bool, true, false, cond}
use mathlib.Core.List.{List}
use Prim.Native.Nat.{ℕ, suc, ◌+◌, ◌-◌, ◌≤◌, ◌<◌}
use native.Mathlib.Omega.{arith}
use lib.ListN.{length}
use lib.Dec.{ltb}
use Rattle.day.specs.Day.{of_period}
use Rattle.day.specs.Plan.{first_of}
use Rattle.day.proofs.Tests.{first_le, first_same}
use Rattle.forecast_plan.specs.Forecast.{first_room}

module _ (waits : ℕ → ℕ) (capacities : List ℕ) where
  -- "else in the closing period"
  pub room_closing : (q : ℕ) → length capacities < q → first_room waits capacities q ≡ q
  unfolding first_room first_of
  room_closing q l = let e : length capacities + 1 - q ≡ 0 = omega arith in rw e (omega arith)

  -- a flight lands in a period if there is room, else where one would that is held to the next
  pub room_step : (q : ℕ) → q ≤ length capacities
      → first_room waits capacities q ≡ cond (ltb (waits q) (of_period capacities q)) q (first_room waits capacities (q + 1))
  unfolding first_room first_of
  room_step q l =
      let e : length capacities + 1 - q ≡ suc (length capacities - q) = omega arith in
      let s : length capacities + 1 - (q + 1) ≡ length capacities - q = omega arith in
      let z : q + 0 ≡ q = omega arith in
      rw (e, s, z) (go (ltb (waits q) (of_period capacities q)))
    where
      test : ℕ → Bool
      test k = ltb (waits k) (of_period capacities k)

      go : (b : Bool)
          → q + cond b 0 (suc (first_of (length capacities - q) (λ t. test (q + suc t))))
          ≡ cond b q (q + 1 + first_of (length capacities - q) (λ t. test (q + 1 + t)))
      go true = omega arith
      go false = omega (arith, first_same (length capacities - q) (λ t. test (q + suc t)) (λ t. test (q + 1 + t)) (λ t b. ap test (omega arith)))

  -- as the program tests it
  module _ {j : ℕ} {r : Bool} (in_day : j ≤ length capacities) (e : r ≡ ltb (waits j) (of_period capacities j)) where
    pub room_here : r ≡ true → j ≡ first_room waits capacities j
    room_here is = sym (room_step j in_day ∙ rw (sym e ∙ is))

    pub room_further : r ≡ false → first_room waits capacities (j + 1) ≡ first_room waits capacities j
    room_further is = sym (room_step j in_day ∙ rw (sym e ∙ is))

  pub room_from : (q : ℕ) → q ≤ first_room waits capacities q
  unfolding first_room
  room_from q = omega arith

  pub room_to : (q : ℕ) → q ≤ length capacities + 1 → first_room waits capacities q ≤ length capacities + 1
  unfolding first_room
  room_to q l = omega (arith, first_le (length capacities + 1 - q) (λ t. ltb (waits (q + t)) (of_period capacities (q + t))))

-- only who waits in the periods from the held one on counts
pub room_same : (waits others : ℕ → ℕ) (capacities : List ℕ) (q : ℕ)
    → ((k : ℕ) → q ≤ k → k ≤ length capacities → waits k ≡ others k) → first_room waits capacities q ≡ first_room others capacities q
unfolding first_room
room_same waits others capacities q same =
    ap (λ t. q + t) (first_same (length capacities + 1 - q) _ _ (λ t l. ap (λ w. ltb w (of_period capacities (q + t))) (same (q + t) (omega arith) (omega arith))))
