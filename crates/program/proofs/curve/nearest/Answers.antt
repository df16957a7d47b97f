use Rattle.std.proofs.Common.{sym, ◌∙◌}
use Rattle.program.proofs.Curves.{points_are}
use Rattle.program.specs.Curve.{near_first}
use Rattle.program.proofs.curve.nearest.Goals as goal

pub returns : goal.returns
returns c = let v = c.args.v in c.nearest_of.ensures ∙ sym (points_are c.args.r.now v c.min-n.result (near_first v) c.told-r c.min-n.ensures)
