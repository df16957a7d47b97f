use mathlib.Core.Path.{◌≡◌}
use Prim.Native.Nat.{◌≤◌}
use lib.ListN.{length, take}
use Rattle.players.specs.Seats.{slots_from, slot_numbers}
use Rattle.players.proofs.slots_of.Given as goal

abbrev pub invariant-loop-p : goal.invariant-loop-p
invariant-loop-p l = (length l.players ≤ 32) × (l.slots ≡ slots_from (slot_numbers (take l.p-index l.players)))
