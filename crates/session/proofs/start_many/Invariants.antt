use Rattle.std.proofs.Common.{◌≡◌, take}
use Rattle.session.specs.State.{Starting, start_next}
use mathlib.Core.List.{foldl}
use Rattle.session.proofs.start_many.Given as goal

abbrev pub invariant-loop-st : goal.invariant-loop-st
invariant-loop-st l =
    ◌≡◌ {A = Starting} (record { session = l.t; held = l.count; slot = l.next })
    (foldl start_next (record { session = l.initial.t; held = l.initial.count; slot = l.initial.next }) (take l.st-index l.st-items))
