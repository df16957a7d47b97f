use Rattle.std.proofs.Common.{refl, subst, arith, IfSome, Option}
use Rattle.players.specs.Seats.{PlayersOk}
use Rattle.events.specs.declared.Both.{Both}
use Rattle.gates.proofs.Turns.{turn_on, turn-over, turn-stop}
use Rattle.gates.proofs.off.own_offs.Goals as goal

pub loop-init : goal.loop-init
loop-init c = (omega arith, refl, c.requires)

pub took_own-requires : goal.took_own-requires
took_own-requires c = c.loop.invariant.2

pub returns-in_default : goal.returns-in_default
returns-in_default c = (turn-stop _ _ _ _ _ _ c.loop.invariant.1 _ c.took_own.ensures.0 c.in_default.is, c.loop.invariant.2)

pub loop-preserved : goal.loop-preserved
loop-preserved c = (
  omega arith,
  turn_on _ _ _ _ _ _ c.loop.invariant.1 _ c.took_own.ensures.0 _ (omega arith) c.in-Some.is,
  subst (λ (r : Option Both). IfSome r (λ x. PlayersOk x.voice.players)) c.in-Some.is c.took_own.ensures.1,
)

pub returns : goal.returns
returns c = (turn-over _ _ _ _ _ _ c.loop.invariant.1 (omega arith), c.loop.invariant.2)
