use Rattle.std.proofs.Common.{rules, tests, ◌≡◌, ◌+◌, ◌*◌, refl, ◌∙◌}
use Rattle.program.specs.Region.{filter_of, filters_of}
use Rattle.program.proofs.Words.{made-by}
use Rattle.program.proofs.region.filters_of.Goals as goal

pub returns : goal.returns
unfolding filters_of
returns c =
    let items = c.from_fn.ensures.items in
    made-by (λ k. filter_of c.args.r.now (58 + 7 * k)) c.from_fn.result 6 items.long (λ i d h. let called = items.at i d h in search (rules, tests))
