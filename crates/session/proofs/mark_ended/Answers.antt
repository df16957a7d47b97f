use Rattle.std.proofs.Common.{◌∙◌, ap}
use Rattle.session.proofs.Relist.{in-place}
use Rattle.session.proofs.Yield.{length-ended}
use Rattle.session.specs.Rules.{mark_ended}
use Rattle.session.specs.State.{slot_list}
use Rattle.session.proofs.mark_ended.Goals as goal

pub returns : goal.returns
returns c =
    let e = c.split_at_mut-records.ensures in
    in-place c.args.s _ c.used-n.ensures _ _ e.front_len e.front e.back (mark_ended c.args.voice (slot_list c.args.ks)) (length-ended c.args.voice (slot_list c.args.ks)) _
    (c.end_slots.ensures ∙ ap (λ l. mark_ended c.args.voice l c.split_at_mut-records.result.0.now) c.as_slice.ensures)
