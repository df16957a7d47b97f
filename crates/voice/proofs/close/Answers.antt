use mathlib.Core.Path.{sym, ◌∙◌}
use Rattle.voice.proofs.Refusals.{close-back, close-done}
use Rattle.voice.proofs.Numbers.{close-promise}
use Rattle.voice.proofs.close.Goals as goal

pub returns-then-is_ok : goal.returns-then-is_ok
returns-then-is_ok c = let a = c.args in close-promise a.s a.v (close-done a.s a.v _ c.may_end-answer.ensures (sym c.is_ok.ensures.value ∙ c.if-is_ok.true) _ c.close_voice-session.ensures)

pub returns-else-is_ok : goal.returns-else-is_ok
returns-else-is_ok c = let a = c.args in close-promise a.s a.v (close-back a.s a.v _ c.may_end-answer.ensures (sym c.is_ok.ensures.value ∙ c.if-is_ok.false))
