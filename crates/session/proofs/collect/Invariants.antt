use Rattle.std.proofs.Common.{◌≡◌, take}
use Rattle.session.proofs.Walks.{on_first}
use Rattle.session.specs.Lists.{change_if}
use Rattle.session.specs.Records.{waits, collected}
use Rattle.session.specs.Offs.{offs_of, off_times}
use Rattle.session.proofs.collect.Given as goal

abbrev pub invariant-loop-r : goal.invariant-loop-r
invariant-loop-r l =
    (l.r-items ≡ on_first (change_if (waits l.voice) collected) l.r-index l.initial.r-items)
    × (l.offs ≡ offs_of (off_times l.voice (take l.r-index l.initial.r-items)))
