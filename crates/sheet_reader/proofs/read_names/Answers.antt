use Rattle.sheet_reader.proofs.Loops.{names_not, names_on}
use Rattle.sheet.specs.Text.{flight_names}
use mathlib.Core.Path.{sym, ◌∙◌}
use Rattle.sheet_reader.proofs.read_names.Goals as goal

pub returns-then-not-fixed_at-clause-by_index : goal.returns-then-not-fixed_at-clause-by_index
unfolding flight_names
returns-then-not-fixed_at-clause-by_index c = (names_not _ _ _ _ (sym c.fixed_at.ensures ∙ c.if-not-fixed_at.true)).1

pub returns : goal.returns
unfolding flight_names
returns c =
    let all = names_on _ _ _ _ (sym c.fixed_at.ensures ∙ c.if-not-fixed_at.false) c.requires.0 c.requires.1 in
    record { ready = all.0; by_index = all.1 }
