use Rattle.elementary.proofs.Whole.{ceiling-is}
use Rattle.elementary.proofs.power.Exponent.ceiling.Goals as goal

pub returns : goal.returns
returns c = rw (c.saturating_f64_to_u64.ensures, c.ceil.ensures) (ceiling-is c.args.self.y c.args.self.small)
