use Rattle.elementary.proofs.Root.{fixed-is}
use Rattle.elementary.proofs.log.fixed.Goals as goal

pub returns : goal.returns
returns c = fixed-is c.args.a c.requires
