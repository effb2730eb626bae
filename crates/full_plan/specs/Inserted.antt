-- What the insertion asks, and what it leaves in the lent rows. Only a private contract cites it.
-- Assumes nothing.
use Rattle.std.specs.Prelude.{◌≡◌, List, ◌++◌, ℕ, ◌-◌, ◌≤◌, length, take, replicate}
use Rattle.day.specs.Day.{Day, P}
use Rattle.insertion.specs.Insertion as insertion

-- the day, which has no closing line, can be planned, and the price row has an entry for each period 1 to P
pub record CanPlan (d : Day) (holds prices : List ℕ) : Type 0 where
  pub can : insertion.CanInsert d holds (take (P d) prices)
  pub from : P d ≤ length prices

-- its plan and its prices; what is left of the price row is 0
pub record Made (d : Day) (total : ℕ) (holds prices₀ prices : List ℕ) : Type 0 where
  pub front : List ℕ
  pub planned : insertion.Planned d holds front total
  pub behind : prices ≡ front ++ replicate (length prices₀ - P d) 0
