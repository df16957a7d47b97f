use mathlib.Core.Path.{sym, ◌∙◌}
use Rattle.voice.proofs.Refusals.{ask-8, ask-done}
use Rattle.voice.proofs.Numbers.{ask-promise}
use Rattle.voice.specs.Calls.{Program}
use Rattle.voice.proofs.is_finished.Goals as goal

pub returns-then-not-state_fits : goal.returns-then-not-state_fits
returns-then-not-state_fits c = let a = c.args in let k : Program = record { words = a.words.now; samples = a.samples.now; pcm = a.pcm.now; table = a.table.now } in ask-promise k a.s a.v (ask-8 k a.s a.v (sym c.state_fits.ensures ∙ c.if-not-state_fits.true))

pub returns : goal.returns
returns c = let a = c.args in let k : Program = record { words = a.words.now; samples = a.samples.now; pcm = a.pcm.now; table = a.table.now } in ask-promise k a.s a.v (ask-done k a.s a.v _ (sym c.state_fits.ensures ∙ c.if-not-state_fits.false) c.finished.ensures)
