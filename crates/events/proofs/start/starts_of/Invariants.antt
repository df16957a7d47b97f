use Rattle.std.proofs.Common.{◌≡◌, ◌≤◌, length, take}
use Rattle.events.specs.Start.{starts_of}
use Rattle.events.proofs.start.starts_of.Given as goal

abbrev pub invariant-loop-i : goal.invariant-loop-i
invariant-loop-i l = (length l.regions ≤ 256) × (length l.starts ≡ 256) × (take l.i l.starts ≡ starts_of l.k.words.now l.id l.x.note l.x.cause (take l.i l.regions))
