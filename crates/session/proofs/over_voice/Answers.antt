use Rattle.session.proofs.Laws.{over-few}
use Rattle.session.proofs.over_voice.Goals as goal

pub returns-then-s-le32 : goal.returns-then-s-le32
returns-then-s-le32 c = over-few c.args.s.now c.if-s-le32.true
