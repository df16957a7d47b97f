use mathlib.Core.Path.{ap}
use Rattle.std.proofs.Common.{rules}
use Rattle.std.proofs.lemmas.Iterator.Splits.{YieldsList-from_slice_split}
use Rattle.std.proofs.lemmas.Iterator.Consumers.{count_from_yields_List}
use lib.Dec.{eqb}
use Rattle.lines.specs.Fields.{has_fields}
use Rattle.lines.proofs.field.has_fields.Goals as goal

pub returns : goal.returns
unfolding has_fields
returns c = ap (λ n. eqb n c.args.n) (count_from_yields_List _ c.count.result c.count.ensures.ran (YieldsList-from_slice_split _ (λ x. eqb x 44) c.args.line.now c.split.ensures.rest c.split.ensures.done c.split.ensures.closure (search rules)))
