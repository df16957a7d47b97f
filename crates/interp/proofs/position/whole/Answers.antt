use Rattle.std.proofs.Common.{rules}
use Rattle.interp.proofs.Whole.{position-cut}
use Rattle.interp.proofs.position.whole.Goals as goal

pub returns : goal.returns
returns c = position-cut c.args.p (search rules) c.requires _ c.excess.ensures
