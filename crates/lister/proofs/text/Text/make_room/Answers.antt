use Rattle.std.proofs.Common.{refl, ◌∙◌, arith}
use Rattle.lister.proofs.Putting.{behind, front}
use Rattle.lister.proofs.text.Text.make_room.Goals as goal

pub returns-then-n-self-clause-place : goal.returns-then-n-self-clause-place
returns-then-n-self-clause-place c =
    (c.flush.ensures.0 ∙ front c.args.n c.args.self.now.len (omega (arith, c.requires, c.if-n-self.true)), c.flush.ensures.1)

pub returns-else-n-self-clause-place : goal.returns-else-n-self-clause-place
returns-else-n-self-clause-place c = (behind c.args.n c.args.self.now.len (omega (arith, c.requires, c.if-n-self.false)), refl)
