use Rattle.std.proofs.Common.{rules, tests, ◌≡◌, ◌+◌, ◌*◌, refl, ◌∙◌}
use Rattle.program.specs.Region.{band_of, bands_of}
use Rattle.program.proofs.Words.{made-by}
use Rattle.program.proofs.region.bands_of.Goals as goal

pub returns : goal.returns
unfolding bands_of
returns c =
    let items = c.from_fn.ensures.items in
    made-by (λ k. band_of c.args.r.now (100 + 6 * k)) c.from_fn.result 6 items.long (λ i d h. let called = items.at i d h in search (rules, tests))
