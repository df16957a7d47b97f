use Rattle.block.specs.Inputs.{signals_of}
use Rattle.block.proofs.Wholes.{start_is}
use Rattle.block.proofs.start_block.Goals as goal

pub returns : goal.returns
returns c = let a = c.args in (start_is (signals_of a.inputs) a.v a.s _ c.collect_offs-o.ensures _ c.retune_voice-voice.ensures.0, c.retune_voice-voice.ensures.1)
