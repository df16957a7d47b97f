use Rattle.std.proofs.Common.{◌≡◌, take}
use mathlib.Core.List.{foldl}
use Rattle.players.specs.Seats.{PlayersOk}
use Rattle.events.proofs.Split.{carried, started_voice}
use Rattle.events.proofs.start.start_players.Given as goal

abbrev pub invariant-loop-ri : goal.invariant-loop-ri
invariant-loop-ri l =
    (carried l.ps l.next l.dropped l.v ≡ foldl (started_voice (record { words = l.k.words.now; samples = l.k.samples.now }) l.x.note l.x.cause) l.v (take l.ri-index l.regions)) × PlayersOk l.ps
