-- What the card says: the flight at table place i is marked exactly if it is eligible, and the size is the number of those.
-- Assumes nothing.
use mathlib.Core.Path.{◌≡◌, refl}
use Prim.Native.Nat.{ℕ, ◌<◌}
use Rattle.assignment.specs.Sum.{gate, sum}
use Rattle.day.specs.Day.{Day, N}
use Rattle.quick_plan.specs.Quick.{eligible, rates}
use Rattle.period_card.specs.PeriodCard.{size, card}
use Rattle.period_card.proofs.Words.{is_marked, marked}

module _ (d : Day) (j : ℕ) where
  pub card_marks : (i : ℕ) → i < N d → is_marked (card d j).low (card d j).high i ≡ eligible d (rates d) j i
  unfolding card
  card_marks i l = marked (eligible d (rates d) j) (N d) i l

  pub card_size : (card d j).size ≡ sum (N d) (λ i. gate (eligible d (rates d) j i) 1)
  unfolding card size
  card_size = refl
