use Rattle.std.proofs.Common.{not, rules}
use Rattle.session.proofs.Relist.{retained}
use Rattle.session.specs.Records.{of_voice}
use Rattle.session.specs.Rules.{without_voice}
use Rattle.session.proofs.remove_voice.Goals as goal

pub returns : goal.returns
unfolding without_voice
returns c =
    let e = c.split_at_mut-records.ensures in
    retained c.args.s _ c.used-n.ensures _ _ e.front_len e.front e.back _ _ _ (c.retain.ensures (λ r. not (of_voice c.args.voice r)) (λ x r h. search rules))
