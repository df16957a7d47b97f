use Rattle.std.proofs.Common.{rules, ◌≡◌, max, fold}
use Rattle.std.proofs.iter.runs.Made.{chains}
use Rattle.program.proofs.Finite.{key_words}
use Rattle.program.proofs.check.all_keys.Goals as goal

pub returns : goal.returns
returns c =
    let e : c.fold.result ≡ fold (λ a w. max a w) 0 c.args.words.now = search (rules, chains) in
    rw e (key_words c.args.words.now)
