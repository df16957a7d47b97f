use Rattle.block.specs.Inputs.{signals_of}
use Rattle.block.proofs.Framing.{Reached}
use Rattle.block.proofs.Parts.{under, on_stage}
use Prim.Native.Nat.{◌-◌, ◌+◌}
use Rattle.block.proofs.frames.play_frames.Given as goal

abbrev pub invariant-loop-from : goal.invariant-loop-from
invariant-loop-from l = Reached (record { time = l.t; words = l.words; samples = l.samples; pcm = l.pcm; table = l.table; inputs = signals_of l.inputs })
    (on_stage (under l.initial.session l.initial.voice l.initial.waiting l.initial.from) l.initial.left l.initial.right) (on_stage (under l.session l.voice l.waiting l.from) l.left l.right) l.ev

abbrev pub decreases-loop-from : goal.decreases-loop-from
decreases-loop-from l = (l.t.frames - l.ev) + (l.t.frames - l.from)
