-- The places left and the flights from table place i on are lent, and a legal plan of them exists exactly when no stretch is short.
-- Assumes nothing.
use mathlib.Core.Path.{◌≡◌}
use mathlib.Core.Bool.{Bool, true, false, not}
use native.Mathlib.Omega.{arith}
use lib.ListN.{length-take}
use Rattle.std.specs.Prelude.{Option, Some, None}
use Rattle.std.specs.Option.{is_some}
use Rattle.answers.specs.Decides.{Decides}
use Rattle.day.specs.Checked.{day_of}
use Rattle.day.specs.Day.{Day, P, valid}
use Rattle.day.specs.Plan.{HasPlan}
use Rattle.day.proofs.Costs.{counted_from}
use Rattle.stretch.specs.declared.Stretch.{Stretch}
use Rattle.stretch.specs.Search.{Searched}
use Rattle.completion.proofs.Steps.{part_is, short_found, none_found}
use Rattle.completion.proofs.rest_has_plan.Goals as goal

-- a plan where no stretch is found
decided : {d : Day} {none : Bool} (found : Option Stretch) → valid d ≡ true → Searched d found → is_some found ≡ not none → Decides none (HasPlan d)
decided {none = true} None good clear e = none_found good clear
decided {none = false} (Some s) good picked e = short_found good picked
decided {none = false} None good clear e = absurd cc
decided {none = true} (Some s) good picked e = absurd cc

pub slice_bounds-rest-end : goal.slice_bounds-rest-end
slice_bounds-rest-end c = simp length-take (omega (arith, c.requires, counted_from (P (day_of c.args.day)) c.args.day.closing))

pub returns : goal.returns
returns c = decided _ c.requires.2 (rw (c.closing_left-open.ensures, part_is) at c.find_short.ensures) c.is_none.ensures
