-- The lines that can be completed are measured.
-- Assumes nothing.
use native.Mathlib.Omega.{arith}
use Rattle.plan_reader.proofs.Reading.{most_none, most_some, partial_rows}
use Rattle.plan_reader.proofs.first_wrong.Goals as goal

pub place_behind-requires : goal.place_behind-requires
place_behind-requires c =
    let rows = partial_rows c.requires in
    let most = rw c.in-Some.is at c.most_completed.ensures in
    (omega (arith, rows.0, most.0), rows.1, rows.2)

pub returns-in-None : goal.returns-in-None
returns-in-None c =
    most_none c.requires (rw c.in-None.is at c.most_completed.ensures)

pub returns-in-Some : goal.returns-in-Some
returns-in-Some c =
    most_some c.requires (rw c.in-Some.is at c.most_completed.ensures) c.place_behind.ensures
