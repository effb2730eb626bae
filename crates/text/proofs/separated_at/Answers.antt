use Rattle.text.proofs.Lines.{walk_next, walk_stop, walk_end}
use native.Mathlib.Omega.{arith}
use Rattle.std.proofs.lemmas.List.{set-get_or}
use mathlib.Core.Path.{sym, ◌∙◌}
use Rattle.text.proofs.separated_at.Goals as goal

pub returns-in_err-read : goal.returns-in_err-read
returns-in_err-read c =
    let all = walk_stop c.loop-number.invariant (omega arith) (sym c.field_at.ensures ∙ c.in_err-read.was) in
    record { value = c.from_residual.ensures ∙ all.0; numbers_after = set-get_or _ _ _ ∙ all.1 }

pub loop-number-preserved : goal.loop-number-preserved
loop-number-preserved c = walk_next c.loop-number.invariant (omega arith) _ (sym c.field_at.ensures ∙ c.in_ok-read.was)

pub returns : goal.returns
returns c = let all = walk_end c.loop-number.invariant (omega arith) in record { value = all.0; numbers_after = all.1 }
