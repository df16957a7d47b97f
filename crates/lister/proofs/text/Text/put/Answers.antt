use Rattle.std.proofs.Common.{◌≡◌, length, rules}
use Rattle.lister.proofs.Putting.{byte_put}
use Rattle.lister.proofs.text.Text.put.Goals as goal

pub returns : goal.returns
returns c =
    let long : length c.args.self.now.bytes ≡ 65536 = search rules in
    let m = c.make_room.ensures in
    byte_put _ _ _ _ _ m.place.1 m.place.0 m.room long
