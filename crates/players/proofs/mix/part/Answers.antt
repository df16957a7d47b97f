use Rattle.players.proofs.Lending.{part_held}
use Rattle.players.proofs.mix.part.Goals as goal

pub returns : goal.returns
returns c = rw (c.min-end.ensures, c.min-first.ensures) (part_held c.args.frames.now c.args.start c.args.n)
