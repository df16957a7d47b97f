use mathlib.Core.Path.{◌≡◌}
use Rattle.filter.specs.Filter.{Ticked, stages}
use Rattle.filter.proofs.biquad.Given as goal

abbrev pub invariant-loop-s : goal.invariant-loop-s
invariant-loop-s l = ◌≡◌ {A = Ticked} (record { y = l.v; states = l.states }) (stages l.c l.base l.s (record { y = l.x; states = l.initial.states }))
