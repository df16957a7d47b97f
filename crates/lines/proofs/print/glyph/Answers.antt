use mathlib.Core.Path.{refl}
use borrow.Author.Tests.{lt-ltb, le-ltb}
use Rattle.lines.specs.Print.{glyph_of}
use Rattle.lines.proofs.print.glyph.Goals as goal

pub returns-then-d-lt10 : goal.returns-then-d-lt10
unfolding glyph_of
returns-then-d-lt10 c = rw (lt-ltb _ _ c.if-d-lt10.true) refl

pub returns : goal.returns
unfolding glyph_of
returns c = rw (le-ltb _ _ c.if-d-lt10.false) refl
