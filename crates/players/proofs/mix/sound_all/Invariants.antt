use Prim.Native.Nat.{◌≤◌}
use mathlib.Core.Path.{◌≡◌}
use lib.ListN.{length}
use Rattle.players.proofs.Bands.{Going}
use Rattle.players.proofs.mix.sound_all.Given as goal

abbrev pub invariant-loop-k : goal.invariant-loop-k
invariant-loop-k l = (l.k ≤ l.n) × (length l.right ≡ length l.left) × (length l.left ≡ length l.initial.left) × Going (record { samples = l.sounds.samples.now; frames = l.sounds.frames.now; table = l.sounds.table.now }) l.tune l.initial.t l.initial.left l.initial.right l.k l.t l.ended l.over l.left l.right
