use Rattle.sheet_reader.proofs.Loops.{error_is, periods_start, periods_ended, full_end, full_more, period_form, period_count, period_range, period_next}
use Rattle.std.proofs.lemmas.Result.{err_from_is_err_and}
use native.Mathlib.Omega.{arith}
use mathlib.Core.Path.{◌≡◌, sym, ◌∙◌}
use Rattle.day.specs.Day.{most_periods}
use Rattle.sheet_reader.proofs.read_periods.Goals as goal
use Rattle.sheet_reader.proofs.read_periods.Goals.{then-line-n-via-then-line-n, then-line-n-via-else-line-n+then-line-gt255}

pub loop-n-init : goal.loop-n-init
loop-n-init c = periods_start _ _ c.requires.0 c.requires.1

pub returns-then-end_here-clause-rest_read : goal.returns-then-end_here-clause-rest_read
returns-then-end_here-clause-rest_read c = (periods_ended c.loop-n.invariant (sym c.if-end_here.ensures) c.read_end.result (c.read_end.ensures.ready, c.read_end.ensures.by_index)).1.0

pub returns-in_err-line-clause-rest_read : goal.returns-in_err-line-clause-rest_read
returns-in_err-line-clause-rest_read c =
    let p = err_from_is_err_and c.from_residual.result c.from_residual.ensures.1 in
    let e = c.in_err-line.ensures in
    rw (p.1, p.2, error_is c.period_line.result e.ok_part e.value)
    (period_form c.loop-n.invariant (sym c.if-end_here.ensures) (omega arith) (sym c.period_line.ensures ∙ e.ok_part)).1.0

pub returns-then-line-n-clause-rest_read : goal.returns-then-line-n-clause-rest_read
returns-then-line-n-clause-rest_read c =
    let line = sym c.period_line.ensures ∙ c.in_ok-line.ensures.ok_part in
    elim c.then-line-n.branch [
      | then-line-n-via-then-line-n w ↦ (period_count c.loop-n.invariant (sym c.if-end_here.ensures) (omega arith) line w.if-line-n.true).1.0
      | then-line-n-via-else-line-n+then-line-gt255 w ↦
          (period_range c.loop-n.invariant (sym c.if-end_here.ensures) (omega arith) line w.if-line-n.false w.if-line-gt255.true).1.0
    ]

pub loop-n-preserved : goal.loop-n-preserved
loop-n-preserved c =
    period_next c.loop-n.invariant (sym c.if-end_here.ensures) (omega arith) (sym c.period_line.ensures ∙ c.in_ok-line.ensures.ok_part) c.if-line-n.false c.if-line-gt255.false

pub returns-then-end_here-2-clause-rest_read : goal.returns-then-end_here-2-clause-rest_read
returns-then-end_here-2-clause-rest_read c =
    let r = c.read_end-then-end_here-2 in
    let n : c.loop-n.n ≡ most_periods = omega arith in
    (periods_ended (rw n at c.loop-n.invariant) (sym c.if-end_here-2.ensures) r.result (r.ensures.ready, r.ensures.by_index)).1.0

pub returns-then-at-s-clause-rest_read : goal.returns-then-at-s-clause-rest_read
returns-then-at-s-clause-rest_read c = (full_end c.loop-n.invariant (sym c.if-end_here-2.ensures) (omega arith) c.if-at-s.true).1.0

pub returns-clause-rest_read : goal.returns-clause-rest_read
returns-clause-rest_read c = (full_more c.loop-n.invariant (sym c.if-end_here-2.ensures) (omega arith) c.if-at-s.false).1.0
