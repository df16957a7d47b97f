use Rattle.std.proofs.Common.{ap, ◌∙◌, arith, [], ◌∷◌, get_or, List, ℕ}
use denote.Ref.{Bor}
use Rattle.program.proofs.Words.{lent, sample-is}
use Rattle.program.proofs.sample.sample_at.Goals as goal

pub returns : goal.returns
returns c =
    c.sample_of.ensures ∙ sample-is c.args.samples.now c.args.j c.unwrap_or.result.now
    (ap (λ (r : Bor (List ℕ)). r.now) c.unwrap_or.ensures ∙ lent c.get.result _ ∙ c.get.ensures.lookup.4 (omega arith) (0 ∷ 0 ∷ 0 ∷ 0 ∷ [])
    ∙ ap (λ l. get_or l c.args.j (0 ∷ 0 ∷ 0 ∷ 0 ∷ [])) c.as_chunks.ensures.front)
