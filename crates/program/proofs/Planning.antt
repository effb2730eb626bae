-- A valid day is planned or has no plan, and the answer tells which. What is written for it is what is to be printed.
-- Assumes nothing.
use Rattle.std.proofs.Common.{Result, Ok, Err}
use Prim.Native.Nat.{ℕ, ◌≤◌}
use native.Mathlib.Omega.{arith}
use mathlib.Core.Path.{◌≡◌, ap, ◌∙◌}
use mathlib.Core.List.{List}
use lib.ListN.{length, take}
use Rattle.answers.specs.declared.Refusal.{Refusal}
use Rattle.day.specs.Day.{Day}
use Rattle.day.specs.Plan.{Cheapest}
use Rattle.full_plan.specs.FullPlan as full
use Rattle.plan_text.specs.PlanText.{plan_text}
use Rattle.program.specs.Program.{Front, refusal_of, PrintsDay, plan, none}

err_same : {a b : Refusal} → ◌≡◌ {A = Result ℕ Refusal} (Err a) (Err b) → a ≡ b
err_same e = cc

pub planned : {d : Day} {total : ℕ} {h p h' p' : List ℕ} → full.Solved d (Ok total) h p h' p' → Cheapest d h'
planned (full.plan s) = s.cheapest
planned (full.none s) = absurd (let e = s.stretch_is in let z : ◌≡◌ {A = ℕ} 0 1 = cc in omega (arith, z))

pub prints_plan : {d : Day} {holds buffer : List ℕ} {r : ℕ} → Cheapest d holds → Front buffer r (plan_text d.flights holds)
    → (r ≤ length buffer) × PrintsDay d (take r buffer)
prints_plan {holds = holds} cheapest front = (front.within, plan holds cheapest front.bytes)

pub prints_none : {d : Day} {refusal : Refusal} {h p h' p' buffer : List ℕ} {r : ℕ} → full.Solved d (Err refusal) h p h' p'
    → Front buffer r (refusal_of refusal) → (r ≤ length buffer) × PrintsDay d (take r buffer)
prints_none (full.plan s) front = absurd (let e = s.total_is in let z : ◌≡◌ {A = ℕ} 0 1 = cc in omega (arith, z))
prints_none (full.none s) front = (front.within, none s.first s.last s.picked (front.bytes ∙ ap refusal_of (err_same s.stretch_is)))
