-- Between `first` and the target all is far, and elsewhere it was. Assumes nothing.
use Rattle.insertion.proofs.Steps.{forgotten}
use Rattle.insertion.proofs.forget.Goals as goal

pub returns : goal.returns
returns c = forgotten _ _ c.requires.can c.requires.from (c.fill.ensures.after (λ y e. e))
