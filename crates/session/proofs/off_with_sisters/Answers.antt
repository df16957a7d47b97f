use Rattle.session.proofs.Relist.{in-place}
use Rattle.session.proofs.Yield.{length-sisters}
use Rattle.session.specs.Rules.{mark_sisters}
use Rattle.session.proofs.off_with_sisters.Goals as goal

pub returns : goal.returns
returns c =
    let e = c.split_at_mut-records.ensures in
    in-place c.args.s _ c.used-n.ensures _ _ e.front_len e.front e.back (mark_sisters c.args.voice c.args.start c.args.at) (length-sisters c.args.voice c.args.start c.args.at) _ c.mark_sisters.ensures
