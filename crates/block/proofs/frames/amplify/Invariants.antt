use Rattle.block.proofs.Framing.{times_to}
use lib.ListN.{length}
use mathlib.Core.Path.{◌≡◌}
use Rattle.block.proofs.frames.amplify.Given as goal

abbrev pub invariant-loop-i : goal.invariant-loop-i
invariant-loop-i l = (length l.xs ≡ length l.initial.xs) × (l.xs ≡ times_to l.i l.initial.xs l.amp)
