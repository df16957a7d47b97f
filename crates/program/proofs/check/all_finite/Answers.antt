use Rattle.std.proofs.Common.{rules, ◌≡◌, ◌%◌, max, fold}
use Rattle.std.proofs.iter.runs.Made.{chains}
use Rattle.program.proofs.Finite.{finite_words}
use Rattle.program.proofs.check.all_finite.Goals as goal

pub returns : goal.returns
returns c =
    let e : c.fold.result ≡ fold (λ a w. max a (w % 0x8000_0000)) 0 c.args.words.now = search (rules, chains) in
    rw e (finite_words c.args.words.now)
