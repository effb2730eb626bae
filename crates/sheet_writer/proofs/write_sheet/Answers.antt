-- A day that fails the check is refused; the text of one that passes fits or not.
use Rattle.std.proofs.lemmas.Result.{err_from_is_err_and}
use Rattle.text.proofs.Writing.{lent}
use Rattle.sheet_writer.proofs.Placing.{bad_day, all_written}
use Prim.Native.Nat.{◌≤◌, ◌+◌}
use native.Mathlib.Omega.{arith}
use lib.ListN.{length, length-take, length-drop}
use Rattle.sheet_writer.proofs.write_sheet.Goals as goal

pub returns-in_err-day : goal.returns-in_err-day
returns-in_err-day c =
    let p = err_from_is_err_and c.from_residual.result c.from_residual.ensures.1 in
    let no = c.in_err-day.ensures in
    let all = bad_day _ _ _ no.1 in record { value = rw (p.1, p.2, no.0) all.0; text_after = all.1 }

pub fill_sheet-requires : goal.fill_sheet-requires
fill_sheet-requires c = simp (length-take, length-drop) (omega (arith, c.sheet_len-needed.ensures))

pub returns : goal.returns
returns c =
    let k = c.sheet_len-needed.ensures in
    let h : c.args.place + c.sheet_len-needed.result ≤ length c.args.text.now = omega arith in
    let all = all_written _ _ _ c.in_ok-day.day.good k h (lent _ _ _ _ _ (omega (arith, k, h)) c.fill_sheet.ensures) in
    rw (← c.in_ok-day.ensures) (record { value = all.0; text_after = all.1 })
