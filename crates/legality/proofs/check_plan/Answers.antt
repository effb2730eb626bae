-- A day that fails the check is refused; one that passes is the day that was lent.
-- Assumes nothing.
use Rattle.std.proofs.lemmas.Result.{err_from_is_err_and}
use Rattle.legality.proofs.Laws.{check_bad_day}
use Rattle.legality.proofs.check_plan.Goals as goal

pub returns-in_err-check : goal.returns-in_err-check
returns-in_err-check c =
    let p = err_from_is_err_and c.from_residual.result c.from_residual.ensures.1 in
    let no = c.in_err-check.ensures in rw (p.1, p.2, no.0) (check_bad_day _ _ no.1)
