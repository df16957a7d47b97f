use Rattle.players.proofs.Tuning.{tuned-none, tuned-some}
use Rattle.players.proofs.mix.tune_one.Goals as goal

pub returns-in-Some : goal.returns-in-Some
returns-in-Some c = tuned-some c.args.tune _ c.args.p.now _ c.in-Some.is c.retune_one.ensures

pub returns-in_default : goal.returns-in_default
returns-in_default c = tuned-none c.args.tune c.args.p.now c.in_default.is
