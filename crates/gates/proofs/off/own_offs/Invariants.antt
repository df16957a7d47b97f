use Prim.Native.Nat.{◌≤◌}
use Rattle.players.specs.Seats.{PlayersOk}
use Rattle.gates.proofs.Turns.{Turning}
use Rattle.gates.proofs.off.own_offs.Given as goal

abbrev pub invariant-loop : goal.invariant-loop
invariant-loop l = (l.counter ≤ 128) × Turning (record { words = l.k.words.now; samples = l.k.samples.now }) l.k.regions 128 l.initial.b l.counter l.b × PlayersOk l.b.voice.players
