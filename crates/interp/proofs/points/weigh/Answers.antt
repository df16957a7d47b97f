use Rattle.std.proofs.Common.{sym, ◌∙◌}
use Rattle.interp.proofs.Sizes.{part-weights}
use Rattle.interp.proofs.points.weigh.Goals as goal

pub returns-then-in_second-2 : goal.returns-then-in_second-2
returns-then-in_second-2 c = rw (c.far_weight-then-in_second-2.ensures, c.near_weight-then-in_second-2.ensures, c.near_weight.ensures, c.far_weight.ensures)
    (part-weights c.args.f (sym c.in_first.ensures ∙ c.if-in_first.true) (sym c.in_first-then-in_first.ensures ∙ c.if-in_first-2.true) (sym c.in_second.ensures ∙ c.if-in_second.true) (sym c.in_second-then-in_second.ensures ∙ c.if-in_second-2.true))
