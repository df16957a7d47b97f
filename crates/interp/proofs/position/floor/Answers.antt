use Rattle.std.proofs.Common.{T, sym, ◌∙◌, subst, rules}
use Rattle.interp.proofs.Floor.{floor-zero, floor-whole}
use Rattle.interp.proofs.position.floor.Goals as goal

pub returns-then-p : goal.returns-then-p
returns-then-p c = floor-zero _ (search rules) (subst T (sym c.if-p.true) tt)

pub returns : goal.returns
returns c = c.whole.ensures ∙ floor-whole _ c.requires c.if-p.false
