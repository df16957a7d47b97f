use mathlib.Core.Path.{sym, ◌∙◌}
use Rattle.voice.proofs.Refusals.{reset-back, reset-done}
use Rattle.voice.proofs.Numbers.{reset-promise}
use Rattle.voice.proofs.reset.Goals as goal

pub returns-then-is_err : goal.returns-then-is_err
returns-then-is_err c = let a = c.args in reset-promise a.s a.v (c.with_answer.ensures ∙ reset-back a.s a.v _ c.may_end-answer.ensures (sym c.is_err.ensures.value ∙ c.if-is_err.true))

pub returns : goal.returns
returns c = let a = c.args in reset-promise a.s a.v (c.with_answer-2.ensures ∙ reset-done a.s a.v _ c.may_end-answer.ensures (sym c.is_err.ensures.value ∙ c.if-is_err.false) _ c.end_voice-session.ensures _ c.silence.ensures)
