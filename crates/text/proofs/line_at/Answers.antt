-- The numbers, and behind them the last one.
use Rattle.text.proofs.Lines.{line_bad, line_last, place_within}
use mathlib.Core.Path.{sym, ◌∙◌}
use lib.Dec.{lit<}
use Rattle.text.proofs.line_at.Goals as goal

pub returns-in_err-next-clause-value : goal.returns-in_err-next-clause-value
returns-in_err-next-clause-value c = c.from_residual.ensures ∙ line_bad _ _ _ _ (sym c.separated_at.ensures.value ∙ c.in_err-next.was)

pub field_at-requires : goal.field_at-requires
field_at-requires c = (place_within _ _ _ _ _ c.requires.0 (sym c.separated_at.ensures.value ∙ c.in_ok-next.was), c.requires.1, lit< tt)

pub returns-clause-value : goal.returns-clause-value
returns-clause-value c = c.field_at.ensures ∙ line_last _ _ _ _ _ (sym c.separated_at.ensures.value ∙ c.in_ok-next.was)
