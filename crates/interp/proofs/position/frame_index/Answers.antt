use Rattle.std.proofs.Common.{ℕ, ◌≤◌, sym, subst}
use Rattle.interp.proofs.Range.{position-within}
use Rattle.interp.proofs.Whole.{position-cast}
use Rattle.interp.proofs.position.frame_index.Goals as goal

pub float_to_int-result : goal.float_to_int-result
float_to_int-result c = (position-cast c.args.p c.whole.result c.requires c.whole.ensures).signed

pub overflow_cast-result : goal.overflow_cast-result
overflow_cast-result c = (position-cast c.args.p c.whole.result c.requires c.whole.ensures).fits

pub returns : goal.returns
returns c = let p = c.args.p in
    let i = (position-cast p c.whole.result c.requires c.whole.ensures).is in
    (i, subst (λ (n : ℕ). n ≤ 8589934592) (sym i) (position-within p c.requires).small)
