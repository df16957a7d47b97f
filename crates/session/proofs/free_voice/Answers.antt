use Rattle.std.proofs.Common.{ap, rules}
use Rattle.session.proofs.Voices.{freed-done, others}
use Rattle.session.specs.State.{with_voices}
use Rattle.session.proofs.free_voice.Goals as goal

pub returns : goal.returns
returns c =
    let a = c.args in
    let e = c.split_at_mut-ids.ensures in
    ap (λ v. with_voices v a.s)
    (freed-done a.id a.s.voices _ c.used-n.ensures _ _ e.front_len e.front e.back _ _ (c.retain-t.ensures (others a.id) (λ x r h. search rules)))
