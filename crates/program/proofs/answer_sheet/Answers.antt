-- A sheet that was read left its day at the front of the rows; one that was not is refused.
-- Assumes nothing.
use mathlib.Core.Path.{sym}
use lib.ListN.{length-replicate}
use Prim.Native.Nat.{ℕ}
use Rattle.program.proofs.Reading.{held, in_rows, prints_refusal, prints_day}
use Rattle.program.proofs.answer_sheet.Goals as goal

pub plan_rows-requires : goal.plan_rows-requires
plan_rows-requires c =
    let read = c.in-Ok.ensures in
    (in_rows (held c.args.sheet.now _ _ (sym (length-replicate {A = ℕ} _ 0)) (sym (length-replicate {A = ℕ} _ 0)) read.value read.capacities_after read.flights_after), c.requires)

pub returns-in-Ok : goal.returns-in-Ok
returns-in-Ok c =
    let read = c.in-Ok.ensures in
    prints_day (held c.args.sheet.now _ _ (sym (length-replicate {A = ℕ} _ 0)) (sym (length-replicate {A = ℕ} _ 0)) read.value read.capacities_after read.flights_after) c.plan_rows.new.text c.plan_rows.ensures

pub returns-in-Err : goal.returns-in-Err
returns-in-Err c =
    prints_refusal c.args.sheet.now _ _ (sym (length-replicate {A = ℕ} _ 0)) (sym (length-replicate {A = ℕ} _ 0)) c.put_refusal.new.text c.in-Err.ensures.value c.put_refusal.ensures
