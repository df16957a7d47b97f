use mathlib.Core.Path.{◌≡◌, refl, sym}
use mathlib.Core.Bool.{Bool, true, false, ◌&&◌}
use native.Mathlib.Omega.{arith}
use lib.Ieee.{le}
use Rattle.interp.specs.Position.{double, floored}
use Rattle.interp.proofs.Looping.{floor-below}
use Rattle.segments.specs.Source.{in_fade}
use borrow.Author.Rules.{rules}
use Rattle.segments.proofs.source.in_fade.Goals as goal

no-right : (a b : Bool) → b ≡ false → false ≡ a && b
no-right true b e = sym e
no-right false b e = refl

pub returns-then-idx-start : goal.returns-then-idx-start
unfolding in_fade
returns-then-idx-start c = rw (← c.floor-idx.ensures, c.if-idx-start.true)

pub returns-else-idx-start : goal.returns-else-idx-start
unfolding in_fade
returns-else-idx-start c = rw (← c.floor-idx.ensures, c.if-idx-start.false)

pub returns : goal.returns
unfolding in_fade
returns c = let x = c.args in
    no-right (le (double x.start) (floored x.p)) (le (double x.f.start) (floored x.p)) (floor-below x.f.start x.p c.requires (search rules) (omega arith) c.if-p-f.false)
