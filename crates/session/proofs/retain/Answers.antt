use Rattle.std.proofs.Common.{arith}
use Rattle.session.proofs.Packing.{packed_none, moves-up, left-out, packed-all}
use Rattle.session.proofs.retain.Goals as goal
use Rattle.session.proofs.retain.Goals.{then-stays, else-stays}

pub loop-i-init : goal.loop-i-init
loop-i-init g c = (c.requires, omega arith, λ p h. packed_none p c.args.items.now)

pub loop-i-preserved : goal.loop-i-preserved
loop-i-preserved g c =
    let v = c.loop-i.invariant in (
      v.0,
      elim c.if-stays.branch [ then-stays w ↦ omega (arith, w.kept-is, v.1) | else-stays w ↦ omega (arith, w.kept-is, v.1) ],
      λ p h. elim c.if-stays.branch [ then-stays w ↦ rw (w.items-is, w.kept-is) (moves-up p _ _ _ _ _ (v.2 p h) c.loop-i-test.true c.index-items-i.is _ (h _ _ c.stays.ensures) w.if-stays.true) | else-stays w ↦ rw (w.items-is, w.kept-is) (left-out p _ _ _ _ _ (v.2 p h) c.loop-i-test.true c.index-items-i.is _ (h _ _ c.stays.ensures) w.if-stays.false) ],
    )

pub returns : goal.returns
returns g c = λ p h. packed-all p _ _ _ _ (c.loop-i.invariant.2 p h) c.loop-i-test.false
