-- std's sum of a list is the definition's.
-- Assumes nothing.
use Rattle.std.proofs.Common.{ℕ, rules, sym, ◌∙◌}
use Rattle.std.proofs.lemmas.Iterator.{YieldsList-from_slice, YieldsList-from_map}
use Rattle.std.proofs.lemmas.Iterator.Consumers.{sum_by_from_yields_List}
use Rattle.forecast_plan.proofs.Weights.{sum_of_list}
use Rattle.forecast_plan.proofs.weight_sum.Goals as goal

pub returns : goal.returns
returns c =
    let w = c.args.weights.now in
    let same = λ (x : ℕ). x in
    sum_by_from_yields_List same w c.map.result _ c.sum.ensures.ran (YieldsList-from_map _ same (YieldsList-from_slice w (cc)) c.map.ensures.closure (λ x r q k. search rules))
    ∙ sym (sum_of_list w)
