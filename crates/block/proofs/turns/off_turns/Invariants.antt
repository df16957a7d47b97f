use Rattle.block.specs.Ready.{PlayingOk}
use Rattle.block.specs.Block.{off_turns}
use mathlib.Core.Path.{◌≡◌}
use Rattle.block.proofs.turns.off_turns.Given as goal

abbrev pub invariant-loop-j : goal.invariant-loop-j
invariant-loop-j l = PlayingOk l.words l.q × (off_turns (record { words = l.words; samples = l.samples }) l.t l.i l.initial.q.offs.count l.initial.q ≡ off_turns (record { words = l.words; samples = l.samples }) l.t l.i l.q.offs.count l.q)

abbrev pub decreases-loop-j : goal.decreases-loop-j
decreases-loop-j l = l.q.offs.count
