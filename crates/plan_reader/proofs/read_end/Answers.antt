-- One law for each way that a text ends.
-- Assumes nothing.
use mathlib.Core.Path.{◌≡◌, sym, ◌∙◌}
use mathlib.Core.Bool.{true}
use lib.Dec.{lit<, lit≤}
use lib.ListN.{drop}
use Rattle.text.specs.Fixed.{starts_with}
use Rattle.plan_text.specs.PlanText.{total_name}
use Rattle.plan_reader.proofs.Ending.{end_no_name, number_inside, end_no_number, end_other, end_past, end_whole}
use Rattle.plan_reader.proofs.read_end.Goals as goal

pub returns-then-not-fixed_at : goal.returns-then-not-fixed_at
unfolding total_name
returns-then-not-fixed_at c = end_no_name c.requires (sym c.fixed_at.ensures ∙ c.if-not-fixed_at.true)

pub field_at-requires : goal.field_at-requires
unfolding total_name
field_at-requires c =
    let named : starts_with (drop c.args.at c.args.text.now) total_name ≡ true = sym c.fixed_at.ensures ∙ c.if-not-fixed_at.false in
    (number_inside c.requires (named), lit≤ tt, lit< tt)

pub returns-in_default : goal.returns-in_default
unfolding total_name
returns-in_default c =
    let named : starts_with (drop c.args.at c.args.text.now) total_name ≡ true = sym c.fixed_at.ensures ∙ c.if-not-fixed_at.false in
    end_no_number c.requires (named) (sym c.field_at.ensures ∙ c.in_default.is)

pub returns-then-n-total : goal.returns-then-n-total
unfolding total_name
returns-then-n-total c =
    let named : starts_with (drop c.args.at c.args.text.now) total_name ≡ true = sym c.fixed_at.ensures ∙ c.if-not-fixed_at.false in
    let read = sym c.field_at.ensures ∙ c.in-Some.is in
    end_other c.requires (named) read c.total_of-total.ensures (λ e. c.if-n-total.true (e))

pub returns-then-next-text : goal.returns-then-next-text
unfolding total_name
returns-then-next-text c =
    let named : starts_with (drop c.args.at c.args.text.now) total_name ≡ true = sym c.fixed_at.ensures ∙ c.if-not-fixed_at.false in
    let read = sym c.field_at.ensures ∙ c.in-Some.is in
    end_past c.requires (named) read c.total_of-total.ensures c.if-n-total.false c.if-next-text.true

pub returns : goal.returns
unfolding total_name
returns c =
    let named : starts_with (drop c.args.at c.args.text.now) total_name ≡ true = sym c.fixed_at.ensures ∙ c.if-not-fixed_at.false in
    let read = sym c.field_at.ensures ∙ c.in-Some.is in
    end_whole c.requires (named) read c.total_of-total.ensures c.if-n-total.false c.if-next-text.false
