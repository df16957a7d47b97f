use Rattle.std.proofs.Common.{false}
use Rattle.interp.proofs.Kernel.read.Goals as goal

pub returns : goal.returns
returns c = c.each.ensures false
