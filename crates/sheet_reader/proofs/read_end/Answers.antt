-- The definition's tests in their order.
use Rattle.sheet_reader.proofs.Loops.{error_is, end_first, end_names, end_form, end_range, end_next, name_within, closing_within, closing_at}
use Rattle.std.proofs.lemmas.Result.{err_from_is_err_and}
use Rattle.sheet.specs.Text.{closing_name}
use lib.Dec.{lit≤, lit<}
use mathlib.Core.Path.{sym, ◌∙◌}
use Rattle.sheet_reader.proofs.read_end.Goals as goal

pub returns-then-n-eq0-clause-by_index : goal.returns-then-n-eq0-clause-by_index
returns-then-n-eq0-clause-by_index c = (end_first _ _ _ c.if-n-eq0.true).1

pub returns-then-not-fixed_at-clause-by_index : goal.returns-then-not-fixed_at-clause-by_index
unfolding closing_name
returns-then-not-fixed_at-clause-by_index c =
    (end_names _ _ _ c.if-n-eq0.false (sym c.fixed_at.ensures ∙ c.if-not-fixed_at.true) c.read_names.result (c.read_names.ensures.ready, c.read_names.ensures.by_index)).1

pub field_at-line-requires : goal.field_at-line-requires
unfolding closing_name
field_at-line-requires c = (name_within _ _ c.args.n (sym c.if-not-fixed_at.ensures) c.requires.0, lit≤ tt, lit< tt)

pub returns-in_err-closing-clause-by_index : goal.returns-in_err-closing-clause-by_index
unfolding closing_name
returns-in_err-closing-clause-by_index c =
    let p = err_from_is_err_and c.from_residual.result c.from_residual.ensures.1 in
    let e = c.in_err-closing.ensures in
    rw (p.1, p.2, error_is c.field_at-line.result e.ok_part e.value)
    (end_form _ _ _ c.if-n-eq0.false (sym c.if-not-fixed_at.ensures) (sym (c.field_at-line.ensures ∙ closing_at _ _) ∙ e.ok_part)).1

pub returns-then-closing-gt255-clause-by_index : goal.returns-then-closing-gt255-clause-by_index
unfolding closing_name
returns-then-closing-gt255-clause-by_index c =
    (end_range _ _ _ c.if-n-eq0.false (sym c.if-not-fixed_at.ensures) (sym (c.field_at-line.ensures ∙ closing_at _ _) ∙ c.in_ok-closing.ensures.ok_part) c.if-closing-gt255.true).1

pub read_names-requires-2 : goal.read_names-requires-2
unfolding closing_name
read_names-requires-2 c =
    (closing_within _ _ c.args.n (sym c.if-not-fixed_at.ensures) c.requires.0 _ (sym (c.field_at-line.ensures ∙ closing_at _ _) ∙ c.in_ok-closing.ensures.ok_part), c.requires.1)

pub returns-clause-by_index : goal.returns-clause-by_index
unfolding closing_name
returns-clause-by_index c =
    (end_next _ _ _ c.if-n-eq0.false (sym c.if-not-fixed_at.ensures) (sym (c.field_at-line.ensures ∙ closing_at _ _) ∙ c.in_ok-closing.ensures.ok_part) c.if-closing-gt255.false c.read_names-2.result (c.read_names-2.ensures.ready, c.read_names-2.ensures.by_index)).1
