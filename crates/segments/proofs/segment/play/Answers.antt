use Rattle.segments.specs.Segment.{played_by}
use Rattle.segments.proofs.Runs.{of-run}
use Rattle.segments.proofs.segment.play.Goals as goal

pub frames-h-requires : goal.frames-h-requires
frames-h-requires c = let p = c.requires in (p.0.cold, p.0.stages, p.0.position, p.1)

pub returns : goal.returns
unfolding played_by
returns c = let run = c.frames-h in
    (of-run c.args.p _ _ _ _ _ _ c.went_off-ended.ensures run.ensures.0, record { cold = c.requires.0.cold; stages = c.requires.0.stages; position = run.ensures.1 })
