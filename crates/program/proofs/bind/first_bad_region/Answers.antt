use Rattle.std.proofs.Common.{rules, tests, ◌≡◌, ◌/◌, not, ◌&&◌, length, List, ℕ, Bool, ◌∙◌}
use Rattle.std.specs.List.{position, range_with_len}
use Rattle.std.specs.Simd.{first_chunks}
use Rattle.std.proofs.lemmas.Iterator.{YieldsList-from_slice}
use Rattle.std.proofs.lemmas.Iterator.Search.{position_from_yields_List}
use Rattle.program.specs.Valid.{every, counts_tests, valid_region}
use Rattle.program.specs.Bind.{region_count, counts_in, region_in}
use Rattle.program.proofs.Binding.{find-both}
use Rattle.program.proofs.Parts.{first-region, inside}
use Rattle.program.proofs.Words.{parts-length}
use Rattle.program.proofs.bind.first_bad_region.Goals as goal

pub returns : goal.returns
returns c =
    let ws = c.args.words.now in
    let m = c.args.m in
    let n = length ws / 392 in
    let parts = first_chunks 392 n ws in
    let bad = λ (r : List ℕ). not (every (counts_tests r) && valid_region m r) in
    let e : c.position.result ≡ position bad parts =
    position_from_yields_List bad _ _ c.position.result c.position.ensures.ran (YieldsList-from_slice parts (search rules)) (λ x b q k. search (rules, tests)) in
    record {
      first = e ∙ first-region bad ws ∙ find-both (counts_in ws) (region_in ws m) (range_with_len 0 (region_count ws)) c.requires;
      there = inside bad parts n c.position.result (parts-length 392 n ws) e;
    }
