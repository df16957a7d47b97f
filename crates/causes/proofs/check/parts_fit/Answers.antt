use mathlib.Core.Path.{◌∙◌}
use Rattle.block.specs.Inputs.{signals_of}
use Rattle.causes.proofs.Passed.{same_fit}
use Rattle.causes.proofs.check.parts_fit.Goals as goal

pub returns : goal.returns
returns c =
    c.lengths_fit.ensures
    ∙ same_fit c.args.frames (signals_of c.args.inputs) _ c.length_of.ensures c.length_of-2.ensures c.length_of-3.ensures c.length_of-4.ensures c.length_of-5.ensures c.length_of-6.ensures c.length_of-7.ensures
