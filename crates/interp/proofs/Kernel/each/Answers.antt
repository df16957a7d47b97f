use Rattle.std.proofs.Common.{◌≡◌, rules}
use Rattle.interp.specs.Points.{linear_at, hermite_at}
use Rattle.interp.specs.Read.{kernel_at}
use Rattle.interp.proofs.Reading.{read_by}
use Rattle.interp.proofs.Kernel.each.Goals as goal

pub returns-in-Linear : goal.returns-in-Linear
unfolding kernel_at
returns-in-Linear g c right =
    let e = c.each.ensures right in
    let q : g.C.Channels.part c.each.result right ≡ linear_at (g.C.Channels.frames c.args.channels right) c.of-at.result.n c.of-at.result.f = search rules in
    read_by _ _ _ _ _ _ _ c.in-Linear.is c.of-at.ensures.0 c.of-at.ensures.1 _ _ q

pub returns-in-Hermite : goal.returns-in-Hermite
unfolding kernel_at
returns-in-Hermite g c right =
    let e = c.each-in-Hermite.ensures right in
    let q : g.C.Channels.part c.each-in-Hermite.result right ≡ hermite_at (g.C.Channels.frames c.args.channels right) c.of-at.result.n c.of-at.result.f = search rules in
    read_by _ _ _ _ _ _ _ c.in-Hermite.is c.of-at.ensures.0 c.of-at.ensures.1 _ _ q

pub returns-in-Sinc : goal.returns-in-Sinc
unfolding kernel_at
returns-in-Sinc g c right = read_by _ _ _ _ _ _ _ c.in-Sinc.is c.of-at.ensures.0 c.of-at.ensures.1 _ _ (c.sinc.ensures right)
