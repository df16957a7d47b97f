use Rattle.interp.proofs.Frames.{got}
use Rattle.interp.proofs.points.frame_at.Goals as goal

pub returns : goal.returns
returns c =
    let l = c.get.ensures.lookup in
    rw (c.unwrap_or.ensures, c.copied.ensures) (got c.args.frames.now c.args.n c.get.result c.ranges.n.fits c.well_formed.0.1 l.0 l.1)
