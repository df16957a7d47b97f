use Rattle.session.proofs.Voices.{place-count, place-next, place-taken}
use Rattle.std.proofs.Common.{◌≡◌, length, arith, rules}
use Rattle.session.proofs.LiveVoices.push_next.Goals as goal

pub offset_bounds-self-self : goal.offset_bounds-self-self
offset_bounds-self-self c = let h = place-count c.args.self.now c.requires in record { fits = omega arith }

pub bounds-self-self : goal.bounds-self-self
bounds-self-self c = let h = place-count c.args.self.now c.requires in omega arith

pub overflow_add-self : goal.overflow_add-self
overflow_add-self c = let h = place-count c.args.self.now c.requires in record { fits = omega arith }

pub overflow_add-self-2 : goal.overflow_add-self-2
overflow_add-self-2 c = let h = place-next c.args.self.now c.requires in record { fits = omega arith }

pub returns : goal.returns
returns c = let size : length c.args.self.now.ids ≡ 16 = search rules in place-taken c.args.self.now c.requires size
