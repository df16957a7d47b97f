use Rattle.std.proofs.Common.{cond}
use mathlib.Core.Bool.{Bool, true, false, not}
use mathlib.Core.Path.{◌≡◌, refl, sym, ap, ◌∙◌}
use Rattle.session.specs.State.{held_down}
use Rattle.session.specs.declared.Session.{Session}
use Rattle.events.specs.Voice.{Kit}
use Rattle.events.specs.Start.{dispatched_release}
use Rattle.events.specs.declared.SampleVoice.{SampleVoice}
use Rattle.gates.specs.Gate.{let_go_both, let_go_note, noted_off}
use Rattle.gates.proofs.Turns.{both}
use Rattle.gates.proofs.gate.note_off.Goals as goal

is_off : (t : Bool) → not t ≡ true → t ≡ false
is_off true e = sym e
is_off false e = refl

is_on : (t : Bool) → not t ≡ false → t ≡ true
is_on true e = refl
is_on false e = sym e

pub returns-then-not-b : goal.returns-then-not-b
unfolding noted_off
returns-then-not-b c = let a = c.args in
    let k : Kit = record { words = a.k.words.now; samples = a.k.samples.now } in
    (sym (ap (λ (t : Bool). cond t (let_go_note k a.k.regions a.at a.b) a.b) (is_off a.b.voice.gate_held c.if-not-b.true)), c.requires)

pub returns : goal.returns
unfolding noted_off let_go_note
returns c = let a = c.args in
    let k : Kit = record { words = a.k.words.now; samples = a.k.samples.now } in (
      c.dispatch_release.ensures.0
          ∙ ap (dispatched_release k a.k.regions a.at)
          (c.let_go.ensures.0
          ∙ ap (λ (s : Session). let_go_both (both s c.ungate.result)) c.lower_held.ensures
          ∙ ap (λ (v : SampleVoice). let_go_both (both (held_down a.b.session) v)) c.ungate.ensures)
          ∙ sym (ap (λ (t : Bool). cond t (let_go_note k a.k.regions a.at a.b) a.b) (is_on a.b.voice.gate_held c.if-not-b.false)),
      c.dispatch_release.ensures.1,
    )
