use Rattle.session.specs.State.{ended_voice, held_down}
use Rattle.std.proofs.Common.{ap, ◌∙◌}
use Rattle.session.proofs.end_voice.Goals as goal

pub returns-then-gate_held : goal.returns-then-gate_held
unfolding ended_voice
returns-then-gate_held c = rw c.if-gate_held.true (c.lower_held.ensures ∙ ap held_down c.remove_voice-t.ensures)

pub returns-else-gate_held : goal.returns-else-gate_held
unfolding ended_voice
returns-else-gate_held c = rw c.if-gate_held.false c.remove_voice-t.ensures
