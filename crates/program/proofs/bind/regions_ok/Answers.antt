use Rattle.std.proofs.Common.{rules, tests, ◌≡◌, ◌/◌, ◌&&◌, length, List, ℕ, Bool, ◌∙◌}
use Rattle.std.specs.List.{list_all, range_with_len}
use Rattle.std.specs.Simd.{first_chunks}
use Rattle.std.proofs.lemmas.Iterator.{YieldsList-from_slice}
use Rattle.std.proofs.lemmas.Iterator.Search.{all_from_yields_List}
use Rattle.program.specs.Valid.{every, counts_tests, valid_region}
use Rattle.program.specs.Bind.{region_count, counts_in, region_in}
use Rattle.program.proofs.Binding.{all-both}
use Rattle.program.proofs.Parts.{all-regions}
use Rattle.program.proofs.bind.regions_ok.Goals as goal

pub returns : goal.returns
returns c =
    let ws = c.args.words.now in
    let m = c.args.m in
    let good = λ (r : List ℕ). every (counts_tests r) && valid_region m r in
    let parts = first_chunks 392 (length ws / 392) ws in
    let e : c.all.result ≡ list_all good parts =
    all_from_yields_List good _ _ c.all.result c.all.ensures.ran (YieldsList-from_slice parts (search rules)) (λ x b q k. search (rules, tests)) in
    e ∙ all-regions good ws ∙ all-both (counts_in ws) (region_in ws m) (range_with_len 0 (region_count ws)) c.requires
