use Rattle.std.proofs.Common.{◌+◌, ◌-◌, ◌*◌, ◌/◌, ◌^◌, arith, le→leb, rules}
use lib.Ieee.{in_float}
use Rattle.interp.specs.Position.{looped}
use Rattle.interp.proofs.Looping.{wraps, stays, turns-small}
use Rattle.interp.proofs.position.turned.Goals as goal

pub returns-then-t-limit : goal.returns-then-t-limit
unfolding looped
returns-then-t-limit c = (stays _ _ _ _ _ c.requires.0 c.frame_index-t.ensures.0 c.if-t-limit.true (omega arith), c.requires.0)

pub overflow_add-turns : goal.overflow_add-turns
overflow_add-turns c = omega (arith, (turns-small c.frame_index-t.result (c.args.end + 1) (c.args.end + 1 - c.args.start) (omega arith) (omega arith) (omega (arith, c.frame_index-t.ensures.1))).0)

pub overflow_mul-result : goal.overflow_mul-result
overflow_mul-result c = omega (arith, (turns-small c.frame_index-t.result (c.args.end + 1) (c.args.end + 1 - c.args.start) (omega arith) (omega arith) (omega (arith, c.frame_index-t.ensures.1))).1)

pub int_to_float-result : goal.int_to_float-result
unfolding in_float
int_to_float-result c = let t = c.frame_index-t.result in let L = c.args.end + 1 in let s = L - c.args.start in le→leb (((t - L) / s + 1) * s) (2 ^ 53) (omega (arith, (turns-small c.frame_index-t.result (c.args.end + 1) (c.args.end + 1 - c.args.start) (omega arith) (omega arith) (omega (arith, c.frame_index-t.ensures.1))).1))

pub returns : goal.returns
unfolding looped
returns c = wraps _ _ _ _ c.requires.0 (search rules) c.frame_index-t.ensures.0 (omega arith) (omega arith) (omega arith)
