use Rattle.block.specs.Inputs.{signals_of}
use Rattle.block.proofs.Calming.{tuned-none, tuned-some}
use Rattle.block.proofs.Wholes.{players-of}
use mathlib.Core.Path.{◌∙◌, sym}
use Rattle.block.proofs.retune_voice.Goals as goal

pub returns-in_default : goal.returns-in_default
returns-in_default c = (tuned-none (signals_of c.args.inputs) c.args.v (sym c.in_default.is ∙ c.tune_of.ensures), c.requires.0)

pub returns : goal.returns
returns c = let a = c.args in
    (tuned-some (signals_of a.inputs) a.v c.in-Some.tune (sym c.in-Some.is ∙ c.tune_of.ensures) c.retune-players.result c.retune-players.ensures.0 _ c.with_players.ensures, players-of _ a.v _ c.with_players.ensures c.retune-players.ensures.1)
