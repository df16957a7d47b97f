use Rattle.block.proofs.Scenes.{edge-up, edge-down}
use Rattle.block.proofs.turns.edge.Goals as goal

pub returns-then-g : goal.returns-then-g
returns-then-g c = let a = c.args in edge-up (record { words = a.words.now; samples = a.samples.now }) a.x (record { session = a.s; voice = a.v }) c.note_on.result c.requires c.note_on.ensures.1 a.g c.if-g.true c.note_on.ensures.0

pub returns-else-g : goal.returns-else-g
returns-else-g c = let a = c.args in edge-down (record { words = a.words.now; samples = a.samples.now }) a.x (record { session = a.s; voice = a.v }) c.note_off.result c.requires c.note_off.ensures.1 a.g c.if-g.false c.note_off.ensures.0
