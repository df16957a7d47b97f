use Rattle.std.proofs.Common.{refl}
use Rattle.session.proofs.Voices.{counted-on, no-counter}
use Rattle.session.proofs.Sequences.step.Goals as goal

pub returns-then-region-ge256 : goal.returns-then-region-ge256
returns-then-region-ge256 c = let a = c.args in no-counter a.region a.length a.position a.self c.well_formed.0.1.1.0.1.0.1 c.well_formed.0.1.1.1.0.1.0.1 c.if-region-ge256.true

pub returns : goal.returns
returns c = let a = c.args in counted-on a.region a.length a.position a.self _ _ refl c.seq_hit.ensures
