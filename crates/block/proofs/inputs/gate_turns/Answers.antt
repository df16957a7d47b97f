use Rattle.block.proofs.Firsts.{same_turn}
use Rattle.block.proofs.inputs.gate_turns.Goals as goal

pub returns-else-g : goal.returns-else-g
returns-else-g c = rw c.if-g.false (same_turn _)
