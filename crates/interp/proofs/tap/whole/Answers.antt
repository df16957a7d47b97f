use Rattle.interp.proofs.Whole.{cut_by}
use Rattle.interp.proofs.tap.whole.Goals as goal

pub returns : goal.returns
returns c = cut_by _ _ c.requires.0 c.requires.1 c.excess.ensures
