-- Either of the two lines.
use Rattle.sheet_reader.proofs.Loops.{names_end, closing_end}
use Rattle.sheet.specs.Text.{flight_names, closing_name}
use mathlib.Core.Path.{sym, ◌∙◌}
use Rattle.sheet_reader.proofs.end_here.Goals as goal

pub returns-then-fixed_at : goal.returns-then-fixed_at
unfolding flight_names
returns-then-fixed_at c = c.if-fixed_at.true ∙ names_end _ _ (sym c.if-fixed_at.ensures)

pub returns-else-fixed_at : goal.returns-else-fixed_at
unfolding flight_names closing_name
returns-else-fixed_at c = closing_end _ _ (sym c.if-fixed_at.ensures) c.fixed_at-else-fixed_at.ensures
