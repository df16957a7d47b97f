use Rattle.std.proofs.Common.{not, rules}
use Rattle.session.proofs.Relist.{retained}
use Rattle.session.specs.Records.{in_slots}
use Rattle.session.specs.Rules.{without_slots}
use Rattle.session.specs.State.{slot_list}
use Rattle.session.proofs.remove_slots.Goals as goal

pub returns : goal.returns
unfolding without_slots
returns c =
    let e = c.split_at_mut-records.ensures in
    retained c.args.s _ c.used-n.ensures _ _ e.front_len e.front e.back _ _ _ (c.retain.ensures (λ r. not (in_slots c.args.voice (slot_list c.args.ks) r)) (λ x r h. search rules))
