use mathlib.Core.Path.{◌≡◌}
use Prim.Native.Nat.{ℕ}
use lib.ListN.{length}
use Rattle.segments.specs.Plain.{added_run}
use Rattle.segments.proofs.plain.add_same.Given as goal

abbrev pub invariant-loop-i : goal.invariant-loop-i
invariant-loop-i l = (length l.out ≡ length l.initial.out) × (l.out ≡ added_run (λ (n : ℕ). l.v) l.j l.i l.initial.out)
