-- The numbers that `separated_at` reads, the limit behind them and the late behind that.
use Rattle.text.proofs.Lines.{place_within}
use Rattle.sheet.specs.Lines.{most_digits}
use Rattle.sheet.proofs.Lines.{limit_within, flight_no, flight_no_limit, flight_no_late, flight_yes}
use Prim.Native.Nat.{◌≤◌}
use lib.ListN.{length}
use lib.Dec.{lit≤, lit<}
use mathlib.Core.Path.{refl, sym, ◌∙◌}
use Rattle.sheet_reader.proofs.flight_line.Goals as goal

pub returns-in_err-behind : goal.returns-in_err-behind
returns-in_err-behind c = c.from_residual.ensures ∙ flight_no _ _ (sym c.separated_at.ensures.value ∙ c.in_err-behind.was)

pub limit_at-requires : goal.limit_at-requires
limit_at-requires c = place_within 5 most_digits _ _ _ c.requires (sym c.separated_at.ensures.value ∙ c.in_ok-behind.was)

pub returns-in_err-limit : goal.returns-in_err-limit
returns-in_err-limit c =
    c.from_residual-in_err-limit.ensures ∙ flight_no_limit _ _ _ (sym c.separated_at.ensures.value ∙ c.in_ok-behind.was) (sym c.limit_at.ensures ∙ c.in_err-limit.was)

pub field_at-requires : goal.field_at-requires
field_at-requires c =
    let at : c.in_ok-behind.behind ≤ length c.args.s.now = place_within 5 most_digits _ _ _ c.requires (sym c.separated_at.ensures.value ∙ c.in_ok-behind.was) in
    (limit_within _ _ _ _ at (sym c.limit_at.ensures ∙ c.in_ok-limit.was), lit≤ tt, lit< tt)

pub returns-in_err-late : goal.returns-in_err-late
returns-in_err-late c =
    c.from_residual-in_err-late.ensures
    ∙ flight_no_late _ _ _ (sym c.separated_at.ensures.value ∙ c.in_ok-behind.was) _ (sym c.limit_at.ensures ∙ c.in_ok-limit.was) (sym c.field_at.ensures ∙ c.in_err-late.was)

pub returns : goal.returns
returns c =
    flight_yes _ _ _ (sym c.separated_at.ensures.value ∙ c.in_ok-behind.was) _ (sym c.limit_at.ensures ∙ c.in_ok-limit.was) _ _ _ refl c.separated_at.ensures.numbers_after
    (sym c.field_at.ensures ∙ c.in_ok-late.was)
