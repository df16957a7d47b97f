use Rattle.std.proofs.Common.{true, false}
use Rattle.interp.proofs.Reading.{both, mono}
use Rattle.interp.proofs.Kernel.read_pair.Goals as goal

pub returns-in-Some : goal.returns-in-Some
returns-in-Some c = rw c.in-Some.is (both _ _ _ _ _ _ _ _ (c.each.ensures false) (c.each.ensures true))

pub returns-in-None : goal.returns-in-None
returns-in-None c = rw c.in-None.is (mono _ _ _ _ _ _ (c.each-in-None.ensures false))
