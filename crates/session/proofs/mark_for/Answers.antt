use Rattle.session.proofs.Relist.{in-place}
use Rattle.session.proofs.Yield.{length-marks}
use Rattle.session.specs.Rules.{start_marks}
use Rattle.session.proofs.mark_for.Goals as goal

pub returns : goal.returns
returns c =
    let e = c.split_at_mut-records.ensures in
    in-place c.args.s.now _ c.used-n.ensures _ _ e.front_len e.front e.back (start_marks c.args.st) (length-marks c.args.st) _ c.mark.ensures
