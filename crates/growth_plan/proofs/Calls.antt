-- What the call comes to, a law for each of its ways.
-- Assumes nothing.
use Rattle.std.proofs.Common.{Ok, Err}
use mathlib.Core.Path.{◌≡◌, sym, ◌∙◌}
use mathlib.Core.Bool.{Bool, true, false}
use mathlib.Core.List.{List}
use Prim.Native.Nat.{ℕ}
use Rattle.std.specs.Prelude.{Ok, Err}
use Rattle.answers.specs.declared.Refusal.{Refusal}
use Rattle.answers.specs.declared.Refusal.TheVariants.{BadGrowth, NoPlan}
use Rattle.answers.specs.Answers.{Outcome, outcome}
use Rattle.day.specs.Day.{Day, P}
use Rattle.day.specs.Plan.{Short, Picked}
use Rattle.growth.specs.Growth.{growth_fits}
use Rattle.quick_plan.specs.declared.NextCost.TheVariants.{Growing}
use Rattle.quick_plan.specs.NextCost.{fits}
use Rattle.quick_plan.specs.Calls.{quick_check}
use Rattle.quick_plan.specs.Loop.{without_line, row_to}
use Rattle.quick_plan.proofs.Calls.{can_plan, made_quick}
use Rattle.quick_plan.proofs.Closing.{found_short, none_short}
use Rattle.quick_plan.proofs.NextCosts.{growth_within}
use Rattle.quick_plan.proofs.Plan.{quick_length, quick_to}
use Rattle.growth_plan.specs.Growing.{growing, growing_quick, growing_total, growth_plan}
use Rattle.growth_plan.specs.Loop.{CanSum}
use Rattle.growth_plan.proofs.Sums.{can_sum}

pub refused : (a : ℕ) (d : Day) (h : List ℕ) {answer : Refusal} → quick_check d h ≡ Err answer → growth_plan a d h ≡ outcome (Err answer) h
unfolding growth_plan
refused a d h e = rw e

-- the day that passed the check is the day that was lent; `within` is what the program found of the growth
module _ (a : ℕ) (d : Day) (h : List ℕ) (e : quick_check d h ≡ Ok tt) {checked : Day} (same : checked ≡ d) {within : Bool} (found : within ≡ growth_fits a (P checked)) where
  ew : within ≡ growth_fits a (P d)
  ew = rw same at found

  pub bad_growth : within ≡ false → growth_plan a d h ≡ outcome (Err BadGrowth) h
  unfolding growth_plan
  bad_growth o = rw (e, ← ew, o)

  module _ (o : within ≡ true) where
    pub can_make : fits (Growing a) (P checked) ≡ true
    unfolding fits
    can_make = sym found ∙ o

    abbrev plan : Outcome
    plan = outcome (Ok (growing_total a d.flights (growing_quick a d))) (growing_quick a d)

    pub no_plan_lem : {first last : ℕ} → Picked checked first last → growth_plan a d h ≡ outcome (Err (NoPlan first last)) h
    unfolding growth_plan
    no_plan_lem p = rw (e, ← ew, o) (let w = can_plan d h e in found_short d w.good w.plain (growing a d) h plan (rw same at p))

    module _ {x : List ℕ} (made : x ≡ row_to (without_line checked) (growing a checked) (P checked)) where
      -- the row made for all periods is the growing plan
      made_plan : x ≡ growing_quick a d
      made_plan = made_quick d (growing a d) (can_plan d h e).good (rw same at made)

      pub can_add : CanSum a checked.flights x
      can_add =
          let good = (can_plan d h e).good in
          let r = growth_within a (P d) (sym ew ∙ o) in
          rw (same, made_plan) (can_sum a d (growing_quick a d) r.0 r.1 good (quick_length d (growing a d) good) (quick_to d (growing a d) good))

      pub planned : ((first last : ℕ) → Short checked first last → ⊥) → {t : ℕ} → t ≡ growing_total a checked.flights x
          → growth_plan a d h ≡ outcome (Ok t) x
      unfolding growth_plan
      planned none q =
          let w = can_plan d h e in
          rw (e, ← ew, o, rw same at q, made_plan) (none_short d w.good w.plain (growing a d) h plan (rw same at none))
