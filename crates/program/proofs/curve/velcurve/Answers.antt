use Rattle.std.proofs.Common.{◌≤◌, ap, ◌∙◌, arith}
use Rattle.program.proofs.Curves.{from-below, from-above, on-curve}
use Rattle.program.specs.Curve.{preset, table_of, points_of, gain_at, velcurve_at}
use Rattle.program.specs.Region.{words_of}
use Rattle.program.proofs.curve.velcurve.Goals as goal

pub blend-requires : goal.blend-requires
blend-requires c =
    let v = c.min-v in let h : v.result ≤ 127 = omega (arith, v.ensures) in
    (from-below (points_of c.words_of.result.now) _ _ h c.nearest.ensures, from-above (points_of c.words_of.result.now) _ _ h c.nearest.ensures)

pub returns : goal.returns
unfolding velcurve_at
returns c =
    let v = c.min-v in let h : v.result ≤ 127 = omega (arith, v.ensures) in
    c.blend.ensures ∙ on-curve (points_of c.words_of.result.now) _ _ h c.nearest.ensures
    ∙ ap (λ r. gain_at (table_of preset (points_of r)) v.result) c.words_of.ensures ∙ ap (gain_at (table_of preset (points_of (words_of c.args.words.now c.args.i)))) v.ensures
