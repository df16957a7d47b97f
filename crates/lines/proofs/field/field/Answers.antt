use mathlib.Core.Path.{◌∙◌, ap}
use Rattle.std.proofs.Common.{rules}
use Rattle.std.proofs.lemmas.Iterator.Splits.{YieldsList-from_slice_split}
use Rattle.std.proofs.lemmas.Iterator.Consumers.{nth_from_yields_List}
use lib.Dec.{eqb}
use Rattle.lines.specs.Fields.{field_at}
use Rattle.lines.proofs.Splitting.{unwrapped}
use Rattle.lines.proofs.field.field.Goals as goal

pub returns : goal.returns
unfolding field_at
returns c = ap (λ r. r.now) c.unwrap_or.ensures ∙ unwrapped c.nth.result _ _ c.args.k (nth_from_yields_List c.nth.result _ c.args.k c.nth.ensures.ran (YieldsList-from_slice_split _ (λ x. eqb x 44) c.args.line.now c.split.ensures.rest c.split.ensures.done c.split.ensures.closure (search rules)))
