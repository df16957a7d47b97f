use Rattle.block.proofs.Scenes.{turn_is, turn-ok}
use mathlib.Core.Path.{refl}
use Rattle.block.proofs.turns.off_turn.Goals as goal

pub returns : goal.returns
returns c = let a = c.args in (turn_is (record { words = a.words.now; samples = a.samples.now }) a.t a.i a.j a.p c.requires.0 _ refl c.requires.2 _ refl c.apply_off-b.result c.apply_off-b.ensures.0 _ c.swap_remove.ensures, turn-ok (record { words = a.words.now; samples = a.samples.now }) a.t a.i a.j a.p c.requires.0 _ refl c.requires.2 _ refl c.apply_off-b.result c.apply_off-b.ensures.0 _ c.swap_remove.ensures c.apply_off-b.ensures.1)
