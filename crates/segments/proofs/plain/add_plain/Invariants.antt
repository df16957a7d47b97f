use mathlib.Core.Path.{◌≡◌}
use lib.ListN.{length}
use Rattle.std.proofs.Common.{option_map}
use Rattle.segments.specs.Plain.{plain_share, added_run}
use Rattle.segments.proofs.plain.add_plain.Given as goal

abbrev pub invariant-loop-i : goal.invariant-loop-i
invariant-loop-i l = (length l.out ≡ length l.initial.out) × (l.out ≡ added_run (plain_share l.g l.x l.y l.a (option_map (λ s. s.now) l.b) l.p) l.j l.i l.initial.out)
