use mathlib.Core.Path.{sym, ◌∙◌}
use Rattle.voice.proofs.Refusals.{make-back, make-done}
use Rattle.voice.proofs.Numbers.{make-promise}
use Rattle.voice.proofs.make.Goals as goal

pub returns-then-is_err : goal.returns-then-is_err
returns-then-is_err c = let a = c.args in make-promise a.rate a.program a.s (c.with_answer.ensures ∙ make-back a.rate a.program a.s _ c.may_make-answer.ensures (sym c.is_err.ensures.value ∙ c.if-is_err.true) _ c.fresh_voice.ensures)

pub returns : goal.returns
returns c = let a = c.args in make-promise a.rate a.program a.s (c.with_answer-2.ensures ∙ make-done a.rate a.program a.s _ c.may_make-answer.ensures (sym c.is_err.ensures.value ∙ c.if-is_err.false) _ c.new_voice.ensures _ c.fresh_voice-voice.ensures)
