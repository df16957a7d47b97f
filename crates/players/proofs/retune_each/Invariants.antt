use mathlib.Core.Path.{◌≡◌}
use Rattle.session.proofs.Walks.{on_first}
use Rattle.players.specs.Seats.{retuned}
use Rattle.players.proofs.retune_each.Given as goal

abbrev pub invariant-loop-p : goal.invariant-loop-p
invariant-loop-p l = l.p-items ≡ on_first (retuned l.tune.note_f l.tune.bend) l.p-index l.initial.p-items
