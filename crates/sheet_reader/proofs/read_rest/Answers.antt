-- A day is copied to the fronts of the rows.
use Rattle.std.proofs.lemmas.Result.{err_from_is_err_and}
use Rattle.sheet_reader.proofs.Loops.{read_so, refused_so}
use lib.Seq.{length-take-le}
use lib.ListN.{length, take}
use native.Mathlib.Omega.{arith}
use mathlib.Core.Path.{◌≡◌, refl}
use Rattle.sheet_reader.proofs.read_rest.Goals as goal

pub returns : goal.returns
returns c =
    let e = c.in_ok-n.ensures in
    let count : length (take c.args.count c.args.caps.now) ≡ c.args.count = length-take-le c.args.count c.args.caps.now (omega (arith, c.requires)) in
    let all = read_so _ _ _ _ _ _ _ _ (e.by_index _ _ count) count (omega (arith, e.row_len, e.few)) _ _ (rw c.copy_from_slice.ensures.after refl) (rw c.copy_from_slice-2.ensures.after refl) in
    record { value = all.0; capacities_after = all.1.0; flights_after = all.1.1 }

pub returns-in_err-n : goal.returns-in_err-n
returns-in_err-n c =
    let p = err_from_is_err_and c.from_residual.result c.from_residual.ensures.1 in
    let count : length (take c.args.count c.args.caps.now) ≡ c.args.count = length-take-le c.args.count c.args.caps.now (omega (arith, c.requires)) in
    let all = refused_so (c.in_err-n.ensures.by_index _ _ count) in
    record { value = rw (p.1, p.2) all.0; capacities_after = all.1.0; flights_after = all.1.1 }
