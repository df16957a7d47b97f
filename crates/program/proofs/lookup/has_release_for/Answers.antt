use Rattle.std.proofs.Common.{rules, tests, ◌≡◌, ◌&&◌, refl, sym, ◌∙◌, arith}
use Rattle.std.specs.List.{list_any, range_with_len}
use Rattle.std.proofs.lemmas.Iterator.{YieldsList-from_range}
use Rattle.std.proofs.lemmas.Iterator.Search.{any_from_yields_List}
use Rattle.program.specs.Lookup.{holds_key, releases, has_release_for, regions_for_key}
use Rattle.program.proofs.Lookups.{any-kept}
use Rattle.program.proofs.lookup.has_release_for.Goals as goal

pub returns : goal.returns
unfolding has_release_for regions_for_key
returns c =
    let a = c.args in
    let p = holds_key a.words.now a.key in
    let q = releases a.words.now a.vel in
    let e : c.any.result ≡ list_any (λ i. p i && q i) (range_with_len 0 a.n) =
    any_from_yields_List (λ i. p i && q i) _ _ c.any.result c.any.ensures.ran (YieldsList-from_range 0 a.n a.n refl (omega arith)) (λ x b q k. search (rules, tests)) in
    e ∙ sym (any-kept p q (range_with_len 0 a.n))
