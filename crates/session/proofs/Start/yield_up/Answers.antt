use Rattle.std.proofs.Common.{◌∙◌}
use Rattle.session.proofs.Yield.{yield-next, yield-stop, yield-over}
use Rattle.session.proofs.Start.yield_up.Goals as goal

pub loop-round-preserved : goal.loop-round-preserved
loop-round-preserved c =
    yield-next c.args.self _ _ _ c.loop-round-test.true _ c.quietest.ensures _ _ c.in-Some.is c.mark_sisters.ensures ∙ c.loop-round.invariant

pub returns-in_default : goal.returns-in_default
returns-in_default c =
    yield-stop c.args.self _ _ _ c.loop-round-test.true _ c.quietest.ensures c.in_default.is ∙ c.loop-round.invariant

pub returns : goal.returns
returns c = yield-over c.args.self _ _ _ c.loop-round-test.false ∙ c.loop-round.invariant
