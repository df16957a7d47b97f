use Rattle.std.proofs.Common.{rules, tests, ◌≡◌, ◌/◌, length, List, ℕ, Bool, ◌∙◌}
use Rattle.std.specs.List.{list_all}
use Rattle.std.specs.Simd.{first_chunks}
use Rattle.std.proofs.lemmas.Iterator.{YieldsList-from_slice}
use Rattle.std.proofs.lemmas.Iterator.Search.{all_from_yields_List}
use Rattle.program.specs.declared.sample.Sample.{Sample}
use Rattle.program.specs.Valid.{every}
use Rattle.program.specs.Sample.{sample_of, shape_tests}
use Rattle.program.proofs.Parts.{all-samples}
use Rattle.program.proofs.bind.shapes_ok.Goals as goal

pub returns : goal.returns
returns c =
    let ss = c.args.samples.now in
    let good = λ (s : Sample). every (shape_tests c.args.total s) in
    let parts = first_chunks 4 (length ss / 4) ss in
    let e : c.all.result ≡ list_all (λ (w : List ℕ). good (sample_of w 0)) parts =
    all_from_yields_List (λ (w : List ℕ). good (sample_of w 0)) _ _ c.all.result c.all.ensures.ran (YieldsList-from_slice parts (search rules)) (λ x b q k. search (rules, tests)) in
    e ∙ all-samples good ss
