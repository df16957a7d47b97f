use Rattle.std.proofs.Common.{arith}
use Rattle.elementary.proofs.Root.{first, halved, raised-half, found}
use Rattle.elementary.proofs.log.root.Goals as goal

pub loop-w-init : goal.loop-w-init
loop-w-init c = first c.args.m

pub loop-w-preserved-then-m-power_at : goal.loop-w-preserved-then-m-power_at
loop-w-preserved-then-m-power_at c = halved c.args.m c.loop-w.k c.loop-w.w c.loop-w.invariant c.loop-w-test.true c.power_at.result c.power_at.ensures c.if-m-power_at.true

pub loop-w-preserved : goal.loop-w-preserved
loop-w-preserved c = raised-half c.args.m c.loop-w.k c.loop-w.w c.loop-w.invariant c.loop-w-test.true c.power_at.result c.power_at.ensures c.if-m-power_at.false

pub returns : goal.returns
returns c = found c.args.m c.loop-w.k c.loop-w.w c.loop-w.invariant (omega arith)
