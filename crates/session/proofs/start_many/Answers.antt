use Rattle.std.proofs.Common.{get_or, ◌∙◌}
use Rattle.session.proofs.Started.{turn-joins, turn-drops, turns-done}
use Rattle.session.proofs.Walks.{fold_step}
use Rattle.session.specs.State.{no_start, Starting, start_next}
use Rattle.session.specs.declared.Start.{Start}
use Rattle.session.proofs.start_many.Goals as goal
use Rattle.session.proofs.start_many.Goals.{then-count-lt32, else-count-lt32}

pub loop-st-preserved : goal.loop-st-preserved
loop-st-preserved c =
    let st : Start = get_or c.as_slice-st-items.result.now c.loop-st.st-index no_start in
    let x : Starting = record { session = c.loop-st.t; held = c.loop-st.count; slot = c.loop-st.next } in
    let m = c.mark_for.new.s in
    fold_step start_next _ c.as_slice-st-items.result.now c.loop-st.st-index x c.loop-st.invariant no_start _ c.loop-st-test.true
    (elim c.if-count-lt32.branch [
      | then-count-lt32 w ↦ turn-joins x st m c.mark_for.ensures _ _ _ _ w.if-count-lt32.true w.entered.ensures (w.t-is ∙ w.push.ensures) w.count-is w.next-is
      | else-count-lt32 w ↦ turn-drops x st m c.mark_for.ensures _ _ _ w.if-count-lt32.false w.t-is w.count-is w.next-is
    ])

pub returns : goal.returns
returns c =
    let a = c.args in
    turns-done a.b _ _ (record { session = a.s; held = a.held; slot = a.slot }) (record { session = c.loop-st.t; held = c.loop-st.count; slot = c.loop-st.next })
    c.as_slice-st-items.ensures c.loop-st-test.false c.loop-st.invariant
