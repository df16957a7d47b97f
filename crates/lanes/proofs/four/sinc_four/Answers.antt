use mathlib.Core.Path.{◌∙◌}
use native.Mathlib.Omega.{arith}
use Rattle.lanes.proofs.Rows.{tapped-row, tapped-none, tapped-at, all-taps, low-row}
use Rattle.lanes.proofs.four.sinc_four.Goals as goal

pub loop-j-init : goal.loop-j-init
loop-j-init g c =
    let p = c.requires in
    let r = c.put_unless.ensures in
    (omega arith, omega (arith, p.0.least), λ right. tapped-row _ _ _ _ _ _ _ 0 _ _ _ (r 0 (omega (arith, p.0.least))) (p.2 right) (omega (arith, p.0.least)) c.tap.ensures (c.tapped-s.ensures right) (tapped-none _ _ _ _ _ _ (g.met.C.FourChannels.no_sums c.default.result right c.default.ensures)))

pub tap-requires-in-loop-j : goal.tap-requires-in-loop-j
tap-requires-in-loop-j g c =
    let p = c.requires in
    let l = c.loop-j.invariant.0 in
    let t = c.loop-j-test.true in
    (omega (arith, t, p.0.most), λ e. low-row _ _ _ _ _ p.0 p.1 (omega (arith, l)) (omega (arith, l, t)) (c.put_unless.ensures _ (omega (arith, l, t))))

pub tap-requires-in-loop-j-2 : goal.tap-requires-in-loop-j-2
tap-requires-in-loop-j-2 g c =
    let p = c.requires in
    let l = c.loop-j.invariant.0 in
    let t = c.loop-j-test.true in
    (omega (arith, t, p.0.most), λ e. low-row _ _ _ _ _ p.0 p.1 (omega (arith, l)) (omega (arith, t)) (c.put_unless.ensures _ (omega (arith, t))))

pub loop-j-preserved : goal.loop-j-preserved
loop-j-preserved g c =
    let l = c.loop-j.invariant in
    let o = l.0 in
    let u = c.loop-j-test.true in
    let p = c.requires in
    let r = c.put_unless.ensures in (
      omega arith,
      omega (arith, u),
      λ right. tapped-at _ _ _ _ _ _ _ _ (omega arith)
          (tapped-row _ _ _ _ _ _ _ _ _ _ _ (r _ (omega (arith, u))) (p.2 right) (omega (arith, u)) c.tap-in-loop-j-2.ensures (c.tapped-s-in-loop-j.ensures right)
          (tapped-at _ _ _ _ _ _ _ _ (omega (arith, o)) (tapped-row _ _ _ _ _ _ _ _ _ _ _ (r _ (omega (arith, o, u))) (p.2 right) (omega (arith, o, u)) c.tap-in-loop-j.ensures (c.tapped-q.ensures right) (l.2 right)))),
    )

pub returns : goal.returns
returns g c =
    let p = c.requires in
    let r = c.put_unless.ensures in
    let l = c.loop-j.invariant in
    let e = c.loop-j-test.false in
    (λ right. c.means.ensures right ∙ all-taps _ _ _ _ _ _ (tapped-at _ _ _ _ _ _ _ _ (omega (arith, p.0.least)) (tapped-row _ _ _ _ _ _ _ _ _ _ _ (r _ (omega (arith, p.0.least))) (p.2 right) (omega (arith, p.0.least)) c.tap-2.ensures (c.tapped-t.ensures right) (tapped-at _ _ _ _ _ _ _ _ (omega (arith, l.1, e)) (l.2 right)))), r)
