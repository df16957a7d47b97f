use Rattle.std.proofs.Common.{ap, ◌∙◌, arith, replicate, List, ℕ, get_or}
use denote.Ref.{Bor}
use Rattle.program.proofs.Words.{lent, words-are}
use Rattle.program.proofs.region.words_of.Goals as goal

pub returns : goal.returns
returns c =
    ap (λ (r : Bor (List ℕ)). r.now) c.unwrap_or.ensures ∙ lent c.get.result _ ∙ c.get.ensures.lookup.4 (omega arith) (replicate 392 0)
    ∙ ap (λ l. get_or l c.args.i (replicate 392 0)) c.as_chunks.ensures.front ∙ words-are c.args.words.now c.args.i
