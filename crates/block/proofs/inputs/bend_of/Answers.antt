use lib.Ieee.{of_bits, neg}
use Rattle.block.specs.Inputs.{bend_of}
use mathlib.Core.Path.{◌∙◌, sym}
use Rattle.block.proofs.inputs.bend_of.Goals as goal

pub returns-then-is_finite_f32 : goal.returns-then-is_finite_f32
unfolding bend_of of_bits neg
returns-then-is_finite_f32 c = rw (sym c.is_finite_f32.ensures ∙ c.if-is_finite_f32.true) c.clamp_f32.ensures

pub returns-else-is_finite_f32 : goal.returns-else-is_finite_f32
unfolding bend_of
returns-else-is_finite_f32 c = rw (sym c.is_finite_f32.ensures ∙ c.if-is_finite_f32.false)
