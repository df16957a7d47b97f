use Rattle.std.proofs.Common.{sym, subst, arith}
use lib.Dec.{T}
use Rattle.events.specs.Start.{player_from}
use Rattle.player.proofs.Starts.{started-sound}
use Rattle.player.specs.Bounds.{PlayerOk}
use Rattle.program.specs.Valid.{loop_in_order}
use Rattle.program.specs.declared.region.Region.{Region}
use Rattle.events.proofs.start.player_of.Goals as goal

pub returns : goal.returns
unfolding player_from
returns c = (
  rw (c.start.ensures, c.curve_for-curve.ensures, c.sample_at-sample.ensures, c.unwrap_or.ensures, c.region_at-region.ensures),
  subst PlayerOk (sym c.start.ensures)
      (started-sound _ _ _ _ _ _ (subst (λ (r : Region). T (loop_in_order r.play.loop_points)) (sym c.region_at-region.ensures) (c.args.k.bindable c.args.ri)) (omega arith) (let g = c.region_at-region.type_inv.1.1.1.1.1.0 in omega (arith, g.1.1.0))),
)
