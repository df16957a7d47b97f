use Rattle.std.proofs.Common.{◌≡◌, Bool, ◌*◌, ◌≤◌}
use Rattle.interp.specs.Sinc.{Sums, taps}
use Rattle.interp.specs.Places.{Placed}
use Rattle.interp.proofs.sinc.sinc.Given as goal

abbrev pub invariant-loop-k : goal.invariant-loop-k
invariant-loop-k g l = (l.k ≤ 2 * l.span.half)
    × ((right : Bool) → ◌≡◌ {A = Sums} (record { acc = g.C.Channels.part l.sum right; wsum = l.wsum }) (taps l.kernel.table.now (g.C.Channels.frames l.channels right) l.span l.at.n l.at.f l.k))
    × Placed l.span l.at.f l.entries l.parts (2 * l.span.half)
