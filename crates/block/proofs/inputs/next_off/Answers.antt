use Rattle.std.specs.List.{filter, reduce}
use Rattle.block.proofs.Firsts.{least_off}
use Rattle.block.specs.Inputs.{off_frame}
use Rattle.block.specs.Block.{off_list}
use Rattle.block.specs.Next.{next_off}
use Rattle.session.specs.declared.Off.{Off}
use Prim.Native.Nat.{min}
use lib.Dec.{leb}
use mathlib.Core.List.{List, map}
use mathlib.Core.Path.{◌∙◌, ap}
use Rattle.block.proofs.inputs.next_off.Goals as goal

pub returns : goal.returns
unfolding next_off
returns c = let a = c.args in
    c.least_frame.ensures ∙ ap (λ (l : List Off). reduce min (filter (leb a.from) (map (λ (o : Off). off_frame a.t o.at) l))) c.listed.ensures
    ∙ least_off a.t (off_list a.q.now) a.from c.requires
