use Rattle.std.proofs.Common.{ap, ◌∙◌}
use Rattle.session.specs.declared.Session.{Session}
use Rattle.note.specs.Choice.{chosen_list}
use Rattle.events.specs.declared.SampleVoice.{SampleVoice}
use Rattle.events.specs.declared.Both.{Both}
use Rattle.events.specs.Start.{started_all}
use Rattle.events.proofs.start.start_all.Goals as goal

abbrev both : Session → SampleVoice → Both
both s v = record { session = s; voice = v }

pub returns : goal.returns
returns c = let a = c.args in
    let r : Both = started_all (record { words = a.k.words.now; samples = a.k.samples.now }) a.x.note a.x.cause (chosen_list a.chosen) a.b in
    let v = c.start_players-voice in (
      ap (λ (s : Session). both s v.result) (c.start_sessions-session.ensures a.k.samples.now) ∙ ap (both r.session) (v.ensures.0 a.b.session),
      v.ensures.1,
    )
