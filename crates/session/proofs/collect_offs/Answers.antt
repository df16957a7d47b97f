use Rattle.std.proofs.Common.{◌∙◌, ap}
use Rattle.session.proofs.Relist.{in-place, in_front}
use Rattle.session.proofs.Yield.{length-collect}
use Rattle.session.specs.Rules.{collect}
use Rattle.session.specs.State.{view, relist}
use Rattle.session.specs.Offs.{collected_offs, offs_of, off_times}
use Rattle.session.proofs.collect_offs.Goals as goal

pub returns : goal.returns
unfolding collected_offs
returns c =
    let a = c.args in
    let e = c.split_at_mut-records.ensures in
    ap (λ x. record { session = x; offs = c.collect-offs.result })
    (in-place a.s _ c.used-n.ensures _ _ e.front_len e.front e.back (collect a.voice) (length-collect a.voice) _ c.collect-offs.ensures.taken)
    ∙ ap (λ q. record { session = relist (collect a.voice (view a.s)) a.s; offs = q })
    (c.collect-offs.ensures.offs ∙ ap (λ l. offs_of (off_times a.voice l)) (in_front a.s _ c.used-n.ensures _ _ e.front_len e.front e.back))
