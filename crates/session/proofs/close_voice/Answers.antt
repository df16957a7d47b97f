use Rattle.session.proofs.Voices.{ended-voices}
use Rattle.session.specs.State.{closed_voice, ended_voice, freed, with_voices}
use Rattle.std.proofs.Common.{ap, ◌∙◌}
use Rattle.session.proofs.close_voice.Goals as goal

pub returns : goal.returns
unfolding closed_voice
returns c = let a = c.args in c.free_voice.ensures ∙ ap (λ x. with_voices (freed a.voice x.voices) x) c.end_voice-t.ensures ∙ ap (λ v. with_voices (freed a.voice v) (ended_voice a.voice a.gate_held a.s)) (ended-voices a.voice a.gate_held a.s)
