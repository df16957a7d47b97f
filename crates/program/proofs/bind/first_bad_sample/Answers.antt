use Rattle.std.proofs.Common.{rules, tests, ◌≡◌, ◌/◌, not, length, List, ℕ, Bool, ◌∙◌}
use Rattle.std.specs.List.{position}
use Rattle.std.specs.Simd.{first_chunks}
use Rattle.std.proofs.lemmas.Iterator.{YieldsList-from_slice}
use Rattle.std.proofs.lemmas.Iterator.Search.{position_from_yields_List}
use Rattle.program.specs.declared.sample.Sample.{Sample}
use Rattle.program.specs.Valid.{every}
use Rattle.program.specs.Sample.{sample_of, sample_tests}
use Rattle.program.proofs.Parts.{first-sample, inside}
use Rattle.program.proofs.Words.{parts-length}
use Rattle.program.proofs.bind.first_bad_sample.Goals as goal

pub returns : goal.returns
returns c =
    let ss = c.args.samples.now in
    let n = length ss / 4 in
    let parts = first_chunks 4 n ss in
    let bad = λ (s : Sample). not (every (sample_tests c.args.frames.now s)) in
    let e : c.position.result ≡ position (λ (w : List ℕ). bad (sample_of w 0)) parts =
    position_from_yields_List (λ (w : List ℕ). bad (sample_of w 0)) _ _ c.position.result c.position.ensures.ran (YieldsList-from_slice parts (search rules)) (λ x b q k. search (rules, tests)) in
    record {
      first = e ∙ first-sample bad ss;
      there = inside (λ (w : List ℕ). bad (sample_of w 0)) parts n c.position.result (parts-length 4 n ss) e;
    }
