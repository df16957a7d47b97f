use Rattle.std.proofs.Common.{◌∙◌, ap}
use Rattle.session.proofs.Relist.{in-place, in_front}
use Rattle.session.proofs.Yield.{length-first}
use Rattle.session.specs.Rules.{collect_first}
use Rattle.session.specs.State.{view, relist}
use Rattle.session.specs.Offs.{took_first, off_times}
use Rattle.std.proofs.Common.{slice_get}
use Rattle.session.proofs.take_first_off.Goals as goal

pub returns : goal.returns
unfolding took_first
returns c =
    let a = c.args in
    let e = c.split_at_mut-records.ensures in
    ap (λ x. record { session = x; first = c.take_first-first.result })
    (in-place a.s _ c.used-n.ensures _ _ e.front_len e.front e.back (collect_first a.voice) (length-first a.voice) _ c.take_first-first.ensures.taken)
    ∙ ap (λ q. record { session = relist (collect_first a.voice (view a.s)) a.s; first = q })
    (c.take_first-first.ensures.first ∙ ap (λ l. slice_get (off_times a.voice l) 0) (in_front a.s _ c.used-n.ensures _ _ e.front_len e.front e.back))
