-- Who waits after the periods before j is who is eligible in j, and the ones of both words are as many.
-- Assumes nothing.
use mathlib.Core.Path.{◌∙◌}
use native.Mathlib.Omega.{arith}
use Rattle.quick_plan.proofs.NextCosts.{rate_fits}
use Rattle.quick_plan.proofs.Same.{valid_rows}
use Rattle.period_card.proofs.Steps.{card_is, card_any}
use Rattle.period_card.proofs.card_in.Goals as goal

pub plan_to-requires : goal.plan_to-requires
plan_to-requires c = (c.requires.0, rate_fits _, omega arith)

pub returns : goal.returns
returns c =
    card_is _ (valid_rows _ c.args.day.good) c.requires.1 c.requires.2 c.plan_to.ensures c.marks_of-set.ensures ∙ card_any _ c.requires.2
