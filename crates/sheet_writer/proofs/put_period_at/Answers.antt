-- The part lent on is the rest of the buffer. Assumes nothing.
use Rattle.text.proofs.Writing.{lent}
use Rattle.sheet_writer.proofs.put_period_at.Goals as goal

pub returns : goal.returns
returns c = lent _ _ _ _ _ c.requires c.put_period-k.ensures
