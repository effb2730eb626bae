-- The day is valid and the rows have its lengths, so it is solved: by a plan, or by a stretch that leaves none.
-- Assumes nothing.
use Rattle.full_plan.proofs.Meaning.{accepted_call}
use Rattle.program.proofs.Planning.{planned, prints_plan, prints_none}
use Rattle.program.proofs.plan_day.Goals as goal

pub put_plan-requires : goal.put_plan-requires
put_plan-requires c =
    let solved = accepted_call c.requires.0 c.requires.1 c.requires.2 c.in-Ok.ensures in
    (c.requires.0, (planned solved).legal, c.requires.3)

pub returns-in-Ok : goal.returns-in-Ok
returns-in-Ok c = prints_plan (planned (accepted_call c.requires.0 c.requires.1 c.requires.2 c.in-Ok.ensures)) c.put_plan.ensures

pub returns-in-Err : goal.returns-in-Err
returns-in-Err c = prints_none (accepted_call c.requires.0 c.requires.1 c.requires.2 c.in-Err.ensures) c.put_refusal.ensures
