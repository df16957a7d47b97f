use mathlib.Core.Path.{refl}
use Rattle.players.proofs.Kept.{seated-ok}
use Rattle.players.proofs.Players.push.Goals as goal

pub returns : goal.returns
returns c = (refl, seated-ok c.args.self.now c.requires.0 c.args.p c.requires.1 c.requires.2)
