-- The names line and the lines measured.
-- Assumes nothing.
use Rattle.plan_reader.proofs.Reading.{place_is}
use Rattle.plan_reader.proofs.place_behind.Goals as goal

pub returns : goal.returns
returns c = place_is _ _ _ c.requires.0 c.plan_lines_len.ensures.0
