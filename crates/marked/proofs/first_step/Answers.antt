use Rattle.envelope.specs.Envelope.{env_next}
use lib.Ieee
use mathlib.Core.Path.{◌∙◌, ap}
use Rattle.marked.proofs.first_step.Goals as goal

pub returns : goal.returns
unfolding Ieee.of_bits
returns c = c.next.ensures ∙ ap env_next c.new.ensures
