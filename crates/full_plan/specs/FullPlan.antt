-- The full plan: "fills a hold row of N and a price row of P entries"; with a closing line "the price row has one entry more" (#108).
-- Assumes nothing.
use Rattle.std.specs.Prelude.{◌≡◌, cond, List, ℕ, length, eqb, Result, Ok, Err}
use Rattle.answers.specs.declared.Refusal.{Refusal}
use Rattle.answers.specs.declared.Refusal.TheVariants.{BadDay, BadLength, NoPlan}
use Rattle.day.specs.Day.{Day, N, counted, total, valid}
use Rattle.day.specs.Plan.{Cheapest, Smallest, PricesSave, Picked}

-- what is left to the program is named here: which cheapest plan (legal, and no legal plan costs less). The prices follow from the day: they
-- are the smallest that the price check accepts, and one more landing in a period would save its price (#103)
pub record BestPlan (d : Day) (answer : Result ℕ Refusal) (holds prices : List ℕ) : Type 0 where
  pub total_is : answer ≡ Ok (total d holds)
  pub cheapest : Cheapest d holds
  pub smallest : Smallest d holds prices
  pub saves : PricesSave d (total d holds) prices

-- no legal plan: the stretch that answer 9 names, and both rows as they were
pub record NoLegalPlan (d : Day) (answer : Result ℕ Refusal) (holds₀ prices₀ holds prices : List ℕ) : Type 0 where
  pub first : ℕ
  pub last : ℕ
  pub picked : Picked d first last
  pub stretch_is : answer ≡ Err (NoPlan first last)
  pub same_holds : holds ≡ holds₀
  pub same_prices : prices ≡ prices₀

-- of a valid day and rows of its lengths: one of the two
pub data Solved (d : Day) (answer : Result ℕ Refusal) (holds₀ prices₀ holds prices : List ℕ) : Type 0 where
  plan : BestPlan d answer holds prices → Solved d answer holds₀ prices₀ holds prices
  none : NoLegalPlan d answer holds₀ prices₀ holds prices → Solved d answer holds₀ prices₀ holds prices

-- a refusal: the answer, and both rows as they were
pub record Refused (refusal : Refusal) (answer : Result ℕ Refusal) (holds₀ prices₀ holds prices : List ℕ) : Type 0 where
  pub refusal_is : answer ≡ Err refusal
  pub same_holds : holds ≡ holds₀
  pub same_prices : prices ≡ prices₀

-- the call: refusals 6, 7 for the hold row, 7 for the price row, in this order; else the day is solved
unfoldable pub FullPlan : Day → Result ℕ Refusal → (holds₀ prices₀ holds prices : List ℕ) → Type 0
FullPlan d answer holds₀ prices₀ holds prices =
    cond (valid d)
    (cond (eqb (length holds₀) (N d))
    (cond (eqb (length prices₀) (counted d)) (Solved d answer holds₀ prices₀ holds prices)
    (Refused (BadLength (counted d)) answer holds₀ prices₀ holds prices))
    (Refused (BadLength (N d)) answer holds₀ prices₀ holds prices))
    (Refused BadDay answer holds₀ prices₀ holds prices)
