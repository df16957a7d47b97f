use Rattle.elementary.proofs.Scale.{field-no-nan}
use Rattle.elementary.proofs.power.scale.Goals as goal

pub float_from_bits-result : goal.float_from_bits-result
float_from_bits-result c = field-no-nan c.args.n c.requires.most
