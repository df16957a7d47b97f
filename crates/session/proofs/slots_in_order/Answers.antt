use Rattle.std.proofs.Common.{◌∙◌}
use Rattle.session.proofs.Matching.{left-differs, left-done, left-none, in-use}
use Rattle.session.proofs.slots_in_order.Goals as goal

pub returns-then-slots-j : goal.returns-then-slots-j
returns-then-slots-j c =
    left-none _ _ _ _ _ _ _ c.loop-r.invariant _ c.loop-r-test.true c.if-r-voice.true c.if-slots-j.true
    ∙ in-use c.args.voice c.args.s.now c.args.ks _ _ c.records-r-items.ensures c.as_slice-slots.ensures

pub returns-then-slots-j-2 : goal.returns-then-slots-j-2
returns-then-slots-j-2 c =
    left-differs _ _ _ _ _ _ _ c.loop-r.invariant _ c.loop-r-test.true c.if-r-voice.true c.if-slots-j.false c.if-slots-j-2.true
    ∙ in-use c.args.voice c.args.s.now c.args.ks _ _ c.records-r-items.ensures c.as_slice-slots.ensures

pub returns : goal.returns
returns c =
    left-done _ _ _ _ _ _ _ c.loop-r.invariant c.loop-r-test.false
    ∙ in-use c.args.voice c.args.s.now c.args.ks _ _ c.records-r-items.ensures c.as_slice-slots.ensures
