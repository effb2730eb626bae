-- The part lent on is the rest of the buffer. Assumes nothing.
use Rattle.text.proofs.Writing.{lent}
use Rattle.text.proofs.put_line_at.Goals as goal

pub returns : goal.returns
returns c = lent _ _ _ _ _ c.requires c.put_line-k.ensures
