use mathlib.Core.Bool.{Bool}
use Prim.Native.Nat.{◌-◌, ◌*◌, ◌≤◌}
use Rattle.lanes.proofs.Rows.{Tapped}
use Rattle.lanes.proofs.four.sinc_four.Given as goal

abbrev pub invariant-loop-j : goal.invariant-loop-j
invariant-loop-j g l = (1 ≤ l.j) × (l.j ≤ l.h)
    × ((right : Bool) → Tapped l.table (g.C.Channels.frames l.channels right) l.fn.span l.n l.fn.f (2 * l.j - 1) (g.C.FourChannels.lanes l.s right))
