use Rattle.block.proofs.frames.unsettled.Goals as goal

pub returns : goal.returns
returns c = rw c.if-over.false
