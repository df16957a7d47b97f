use Rattle.std.proofs.Common.{Bool, ◌≤◌}
use Rattle.session.proofs.Packing.{Packed}
use Rattle.session.specs.Lists.{AnswersAs}
use Rattle.session.proofs.retain.Given as goal

abbrev pub invariant-loop-i : goal.invariant-loop-i
invariant-loop-i g l =
    goal.F-IsAlwaysCallable g l.stays
    × (l.kept ≤ l.i)
    × ((p : _ → Bool) → AnswersAs (goal.F-post g l.stays) p → Packed p l.initial.items l.items l.i l.kept)
