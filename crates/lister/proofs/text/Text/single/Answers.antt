use Rattle.std.proofs.Common.{◌≡◌, ℕ, ◌+◌, length, set, ap, ◌∙◌, rules}
use Rattle.lines.specs.Print.{last_digits, put}
use Rattle.lister.proofs.Putting.{digits-end, single_put}
use Rattle.lister.proofs.text.Text.single.Goals as goal

pub invariant_of-self : goal.invariant_of-self
invariant_of-self c =
    let long : length c.args.self.now.bytes ≡ 65536 = search rules in
    let m = c.make_room.ensures in
    record { within = digits-end _ _ _ _ _ m.place.1 m.place.0 m.room long _ _ c.put_hex-self.ensures }

pub returns : goal.returns
returns c =
    let long : length c.args.self.now.bytes ≡ 65536 = search rules in
    let m = c.make_room.ensures in
    single_put _ _ _ _ _ m.place.1 m.place.0 m.room long _ (c.put_hex-self.ensures ∙ ap (λ (n : ℕ). put (set c.make_room.new.self.bytes c.make_room.new.self.len 44) (c.make_room.new.self.len + 1) (last_digits 16 8 n)) c.bits_f32.ensures)
