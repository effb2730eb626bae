-- The line that `line_at` reads.
use Rattle.sheet.proofs.Lines.{period_no, period_yes}
use mathlib.Core.Path.{refl, sym, ◌∙◌}
use Rattle.sheet_reader.proofs.period_line.Goals as goal

pub returns-in_err-capacity : goal.returns-in_err-capacity
returns-in_err-capacity c = c.from_residual.ensures ∙ period_no _ _ (sym c.line_at.ensures.value ∙ c.in_err-capacity.was)

pub returns : goal.returns
returns c = period_yes _ _ _ _ _ refl c.line_at.ensures.numbers_after (sym c.line_at.ensures.value ∙ c.in_ok-capacity.was)
