use mathlib.Core.Path.{sym, ◌∙◌}
use native.Mathlib.Nat.{mod-lt}
use native.Mathlib.Omega.{arith}
use Rattle.lines.proofs.Printing.{digit-stored, none_left}
use Rattle.lines.proofs.print.fill.Goals as goal

pub glyph-requires : goal.glyph-requires
glyph-requires c = omega (arith, mod-lt c.loop-i.rest c.requires.0)

pub loop-i-preserved : goal.loop-i-preserved
loop-i-preserved c = c.loop-i.invariant ∙ digit-stored c.loop-i.out c.args.at c.args.base c.loop-i.i c.loop-i.rest c.glyph.result c.loop-i-test.true c.glyph.ensures

pub returns : goal.returns
returns c = sym (c.loop-i.invariant ∙ none_left c.loop-i.out c.args.at c.args.base c.loop-i.i c.loop-i.rest (omega arith))
