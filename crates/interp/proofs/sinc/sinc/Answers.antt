use Rattle.std.proofs.Common.{refl, ◌∙◌, arith}
use borrow.Author.Tests.{lt-leb}
use Rattle.interp.proofs.Taps.{in_window, outside, more_by, last, none_yet}
use Rattle.interp.proofs.sinc.sinc.Goals.{then-tap-le8192, else-tap-le8192}
use Rattle.interp.proofs.sinc.sinc.Goals as goal

pub loop-k-init : goal.loop-k-init
loop-k-init g c = (omega arith, λ right. none_yet _ _ _ _ _ _ (g.met.C.Channels.nothing c.default-sum.result right c.default-sum.ensures), c.places.ensures)

pub loop-k-preserved : goal.loop-k-preserved
loop-k-preserved g c =
    let l = c.loop-k.invariant in
    let t = c.loop-k-test.true in (
      omega arith,
      λ right. elim c.if-tap-le8192.branch [
        | then-tap-le8192 w ↦ rw (w.sum-is, w.wsum-is, w.more-sum.ensures right) (more_by _ _ _ _ _ _ _ (l.1 right) _ _ _ _ (in_window _ _ _ _ _ w.if-tap-le8192.true _ _ (rw w.weight-w.ensures refl) (rw w.weight-w.ensures refl)) (l.2.entry _ t) (l.2.part _ t) refl)
        | else-tap-le8192 w ↦ rw (w.sum-is, w.wsum-is) (more_by _ _ _ _ _ _ _ (l.1 right) _ _ _ _ (outside _ _ _ _ _ (lt-leb _ _ w.if-tap-le8192.false)) (l.2.entry _ t) (l.2.part _ t) refl)
      ],
      l.2,
    )

pub returns : goal.returns
returns g c right =
    c.mean.ensures right ∙ last _ _ _ _ _ _ _ (c.loop-k.invariant.1 right) c.loop-k.invariant.0 c.loop-k-test.false
