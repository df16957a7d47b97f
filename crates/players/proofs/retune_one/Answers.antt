use mathlib.Core.Path.{sym}
use Rattle.players.proofs.Places.{same-pitch}
use Rattle.players.proofs.retune_one.Goals as goal

pub returns-else-cold-p : goal.returns-else-cold-p
returns-else-cold-p c = sym (same-pitch c.args.p.now _ _ _ c.set_pitch-cold.ensures c.if-cold-p.false)
