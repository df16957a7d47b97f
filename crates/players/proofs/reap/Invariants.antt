use Rattle.players.proofs.Places.{Reaping}
use Rattle.players.proofs.reap.Given as goal

abbrev pub invariant-loop-p : goal.invariant-loop-p
invariant-loop-p l = Reaping l.fn.ps l.players l.p-index l.kept l.gone
