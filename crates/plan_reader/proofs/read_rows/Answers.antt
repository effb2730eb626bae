-- The names line, the flights' lines and the rest, each with its law.
-- Assumes nothing.
use mathlib.Core.Path.{sym, ◌∙◌}
use Rattle.plan_reader.proofs.Reading.{no_names, read_start, lines_stopped, lines_all, can_end, rows_ended}
use Rattle.plan_text.specs.PlanText.{plan_names}
use Rattle.plan_reader.proofs.read_rows.Goals as goal

pub returns-then-not-fixed_at : goal.returns-then-not-fixed_at
unfolding plan_names
returns-then-not-fixed_at c =
    no_names _ (sym c.fixed_at.ensures ∙ c.if-not-fixed_at.true) c.args.holds.now

pub read_lines-i-requires : goal.read_lines-i-requires
unfolding plan_names
read_lines-i-requires c =
    read_start (sym c.fixed_at.ensures ∙ c.if-not-fixed_at.false) c.requires

pub returns-then-i-flight_count : goal.returns-then-i-flight_count
returns-then-i-flight_count c =
    lines_stopped c.read_lines-i.ensures c.flight_count.ensures.0 c.if-i-flight_count.true c.first_wrong-line.ensures

pub read_end-requires : goal.read_end-requires
read_end-requires c =
    can_end (lines_all c.read_lines-i.ensures c.flight_count.ensures.0 c.if-i-flight_count.false)

pub returns : goal.returns
returns c =
    rows_ended (lines_all c.read_lines-i.ensures c.flight_count.ensures.0 c.if-i-flight_count.false) c.read_end.result c.read_end.ensures
