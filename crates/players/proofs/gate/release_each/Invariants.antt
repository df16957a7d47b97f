use mathlib.Core.Path.{◌≡◌}
use Rattle.session.proofs.Walks.{on_first}
use Rattle.std.specs.List.{list_any}
use lib.ListN.{take}
use Rattle.session.specs.Lists.{change_if}
use Rattle.players.specs.Gate.{hears_gate, let_go}
use Rattle.players.proofs.Places.{ends}
use Rattle.players.proofs.gate.release_each.Given as goal

abbrev pub invariant-loop-p : goal.invariant-loop-p
invariant-loop-p l = (l.p-items ≡ on_first (change_if hears_gate let_go) l.p-index l.initial.p-items) × (l.killed ≡ list_any ends (take l.p-index l.initial.p-items))
