use mathlib.Core.Path.{sym, subst}
use Rattle.players.specs.Seats.{PlayersOk}
use Rattle.events.specs.Voice.{Kit}
use Rattle.events.specs.declared.SampleVoice.{SampleVoice}
use Rattle.gates.proofs.Gates.{note-started}
use Rattle.gates.proofs.gate.start_note.Goals as goal

pub start_all-requires : goal.start_all-requires
start_all-requires c = subst (λ (x : SampleVoice). PlayersOk x.players) (sym c.strike.ensures) c.requires

pub returns : goal.returns
returns c = let a = c.args in
    let k : Kit = record { words = a.k.words.now; samples = a.k.samples.now } in
    (note-started k a.k.regions a.ns a.at a.b.session a.b.voice a.k.few _ c.rise-h.ensures _ c.choose-c.ensures _ c.attack_cause-cause.ensures _ c.with_seq.ensures _ c.strike.ensures _ c.start_all.ensures.0, c.start_all.ensures.1)
