use mathlib.Core.Path.{ap, ◌∙◌}
use Rattle.session.specs.declared.Session.{Session}
use Rattle.gates.specs.Off.{reaped_both}
use Rattle.block.specs.Calm.{settled}
use Rattle.block.proofs.calm.settle.Goals as goal

pub returns : goal.returns
unfolding settled
returns c = let v = c.args.v in
    (c.reap.ensures.0 ∙ ap (λ (t : Session). reaped_both (record { session = t; voice = v })) c.end_records-t.ensures, c.reap.ensures.1)
