use mathlib.Core.Bool.{not}
use mathlib.Core.Path.{◌≡◌}
use lib.Dec.{eqb}
use Rattle.filter.specs.Filter.{Paired, chained}
use Rattle.filter.proofs.chain.Given as goal

abbrev pub invariant-loop-k : goal.invariant-loop-k
invariant-loop-k g l = ◌≡◌ {A = Paired} (record { l = l.w.l; r = l.w.r; states = l.states }) (chained l.slots (not (eqb g.row.STEREO 0)) l.k (record { l = l.initial.w.l; r = l.initial.w.r; states = l.initial.states }))
