use lib.Ieee.{nan}
use Rattle.exact.specs.Single.{f0}
use Rattle.interp.proofs.Frames.{get_d_any}
use Rattle.segments.proofs.plain.second_at.Goals as goal

pub returns-in-Some : goal.returns-in-Some
returns-in-Some c = let h = rw c.in-Some.is at c.requires in rw c.in-Some.is (get_d_any c.in-Some.b.now c.args.q nan f0 h)

pub returns-in-None : goal.returns-in-None
returns-in-None c = rw c.in-None.is
