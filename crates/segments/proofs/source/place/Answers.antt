use Rattle.std.proofs.Common.{Option}
use Rattle.player.specs.declared.LoopRt.{LoopRt}
use lib.Ieee.{le}
use lib.Ieee.{Float}
use lib.Dec.{T}
use Rattle.player.specs.Bounds.{LoopOk, Wrapped, bound}
use Rattle.segments.proofs.Positions.{looped-low}
use lib.Ieee.{Float, le}
use mathlib.Core.Path.{sym, ap, subst, ◌∙◌}
use Rattle.segments.specs.Source.{place_in}
use borrow.Author.Rules.{rules}
use Rattle.segments.proofs.source.place.Goals as goal

pub wrap-requires : goal.wrap-requires
wrap-requires c = let ok = subst LoopOk c.in-Some.is c.requires.0 in (c.requires.1, ok.0)

pub returns-in-None : goal.returns-in-None
unfolding place_in
returns-in-None c = let e = c.in-None.is in (ap (λ (l : Option LoopRt). place_in l c.args.pos) (sym e), c.requires.1, subst (λ (l : Option LoopRt). Wrapped l c.args.pos) (sym e) tt)

pub returns-in-Some : goal.returns-in-Some
unfolding place_in
returns-in-Some c = let e = c.in-Some.is in let ok = subst LoopOk e c.requires.0 in (c.wrap.ensures.0 ∙ ap (λ (l : Option LoopRt). place_in l c.args.pos) (sym e), c.wrap.ensures.1, subst (λ (l : Option LoopRt). Wrapped l c.wrap.result) (sym e) (subst (λ (x : Float). T (le x bound)) (sym c.wrap.ensures.0) (looped-low _ _ c.args.pos ok.0 ok.1 c.requires.1 (search rules))))
