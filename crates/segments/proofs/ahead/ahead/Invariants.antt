use Prim.Native.Nat.{◌*◌}
use Rattle.interp.specs.Position.{Position}
use Rattle.segments.specs.Source.{sound_of}
use Rattle.segments.specs.Ahead.{AllRead, PlacedBy}
use Rattle.segments.proofs.ahead.ahead.Given as goal

abbrev pub invariant-loop-k : goal.invariant-loop-k
invariant-loop-k l = record { place : Position l.p; read : AllRead l.cold (sound_of l.lent) (4 * l.k) l.kept; placed : PlacedBy l.cold.span l.last l.places.entries l.places.parts }
