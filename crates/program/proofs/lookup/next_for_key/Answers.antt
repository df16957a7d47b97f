use Rattle.std.proofs.Common.{rules, tests, ◌≡◌, ◌-◌, filter, find, refl, sym, ◌∙◌}
use Rattle.std.specs.List.{range_with_len}
use Rattle.std.proofs.lemmas.Iterator.{YieldsList-from_range}
use Rattle.std.proofs.lemmas.Iterator.Search.{find_from_yields_List}
use Rattle.program.specs.Lookup.{holds_key, regions_from, first_of}
use Rattle.program.proofs.Lookups.{first-kept, same-option}
use Rattle.program.proofs.lookup.next_for_key.Goals as goal

pub returns : goal.returns
unfolding regions_from
returns c =
    let a = c.args in
    let p = holds_key a.words.now a.key in
    let xs = range_with_len a.from (a.n - a.from) in
    let e : c.find.result ≡ find p xs =
    sym (same-option c.find.result) ∙ find_from_yields_List p _ _ c.find.result c.find.ensures.ran (YieldsList-from_range a.from a.n (a.n - a.from) refl refl) (λ x b q k. search (rules, tests)) in
    let f : find p xs ≡ first_of (filter p xs) = first-kept p xs in
    cc
