use Rattle.exact.proofs.Leading.{drop-40}
use Rattle.exact.proofs.cast.nearest_40.Goals as goal

pub returns : goal.returns
returns c = drop-40 c.args.m
