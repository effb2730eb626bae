-- The parts of the rows that are lent on, and the plan copied where it is whole.
-- Assumes nothing.
use Rattle.std.proofs.lemmas.Result.{err_from_is_err_and}
use mathlib.Core.Path.{sym}
use lib.Seq.{length-take-le}
use Rattle.plan_reader.proofs.Calls.{row_holds, left_holds, in_starts, call_refused}
use Rattle.plan_reader.proofs.read_in.Goals as goal

pub all_places-counted-requires : goal.all_places-counted-requires
all_places-counted-requires c =
    left_holds c.requires

pub read_rows-requires : goal.read_rows-requires
read_rows-requires c =
    let p = c.requires in in_starts p c.all_places-counted.ensures

pub returns-in_err-total : goal.returns-in_err-total
returns-in_err-total c =
    let p = err_from_is_err_and c.from_residual.result c.from_residual.ensures.1 in
    rw (p.1, p.2) (call_refused _ _ _ c.read_rows.new.holds (rw c.in_err-total.was at c.read_rows.ensures))

pub slice_bounds-read_rows-end : goal.slice_bounds-read_rows-end
slice_bounds-read_rows-end c = row_holds c.requires

pub slice_bounds-read_rows-end-2 : goal.slice_bounds-read_rows-end-2
slice_bounds-read_rows-end-2 c = sym (length-take-le _ _ (row_holds c.requires))
