use Rattle.session.proofs.Relist.{in-place}
use Rattle.session.proofs.Yield.{length-choke}
use Rattle.session.specs.Rules.{choke}
use Rattle.session.proofs.choke_all.Goals as goal

pub returns : goal.returns
returns c =
    let e = c.split_at_mut-records.ensures in
    in-place c.args.s _ c.used-n.ensures _ _ e.front_len e.front e.back (choke c.args.st) (length-choke c.args.st) _ c.choke.ensures
