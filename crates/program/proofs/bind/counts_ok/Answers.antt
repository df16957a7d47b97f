use Rattle.std.proofs.Common.{rules, tests, ◌≡◌, ◌/◌, length, List, ℕ, Bool, ◌∙◌}
use Rattle.std.specs.List.{list_all, range_with_len}
use Rattle.std.specs.Simd.{first_chunks}
use Rattle.std.proofs.lemmas.Iterator.{YieldsList-from_slice}
use Rattle.std.proofs.lemmas.Iterator.Search.{all_from_yields_List}
use Rattle.program.specs.Valid.{every, counts_tests}
use Rattle.program.specs.Bind.{region_count, counts_in, counts_ok}
use Rattle.program.proofs.Parts.{all-regions}
use Rattle.program.proofs.bind.counts_ok.Goals as goal

pub returns-then-samples-le-MAX_PARTS : goal.returns-then-samples-le-MAX_PARTS
unfolding counts_ok
returns-then-samples-le-MAX_PARTS c =
    let ws = c.args.words.now in
    let few = λ (r : List ℕ). every (counts_tests r) in
    let parts = first_chunks 392 (length ws / 392) ws in
    let e : c.all.result ≡ list_all few parts =
    all_from_yields_List few _ _ c.all.result c.all.ensures.ran (YieldsList-from_slice parts (search rules)) (λ x b q k. search (rules, tests)) in
    let f : c.all.result ≡ list_all (counts_in ws) (range_with_len 0 (region_count ws)) = e ∙ all-regions few ws in
    search rules
