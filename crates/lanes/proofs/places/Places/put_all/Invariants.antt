use mathlib.Core.Path.{◌≡◌}
use Prim.Native.Nat.{◌≤◌}
use Rattle.exact.specs.Single.{◌⊖◌, single, f1}
use Rattle.lanes.specs.Four.{Rows}
use Rattle.lanes.proofs.places.Places.put_all.Given as goal

abbrev pub invariant-loop-k : goal.invariant-loop-k
invariant-loop-k l = (1 ≤ l.k) × (l.k ≤ l.last) × (l.d ≡ single l.span.half ⊖ f1 ⊖ single l.k) × Rows l.span l.f l.self.entries l.self.parts l.k
