use Rattle.std.proofs.Common.{◌≡◌, length, refl, rules}
use Rattle.session.proofs.Relist.{enter-full, enter-room}
use Rattle.session.proofs.Session.push.Goals as goal

pub returns-then-n-lt512 : goal.returns-then-n-lt512
returns-then-n-lt512 c = let size : length c.args.self.now.players ≡ 512 = search rules in enter-room c.args.self.now size c.args.r _ c.used-n.ensures _ c.if-n-lt512.true refl

pub returns-else-n-lt512 : goal.returns-else-n-lt512
returns-else-n-lt512 c = let size : length c.args.self.now.players ≡ 512 = search rules in enter-full c.args.self.now size c.args.r _ c.used-n.ensures c.if-n-lt512.false
