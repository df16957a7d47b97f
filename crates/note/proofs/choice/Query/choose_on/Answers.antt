use Rattle.std.proofs.Common.{rules, refl, ◌∙◌, arith, tests}
use Rattle.std.proofs.lemmas.Iterator.{YieldsList-from_range}
use Rattle.std.proofs.lemmas.Iterator.Consumers.{YieldsList-from_filter, fold_from_yields_List}
use Rattle.program.specs.Lookup.{holds_key}
use Rattle.note.specs.Choice.{Hit, chosen_step}
use Rattle.note.proofs.Choosing.{array-on}
use Rattle.note.proofs.choice.Query.choose_on.Goals as goal

pub returns : goal.returns
returns c =
    let a = c.args in
    let h : Hit = record { words = a.self.words.now; vel = a.self.vel; held = a.held; draw = a.self.draw } in
    fold_from_yields_List _ (chosen_step h) _ c.fold.result c.fold.ensures.ran
    (YieldsList-from_filter _ (holds_key a.self.words.now a.self.key) (YieldsList-from_range 0 a.self.regions a.self.regions c.filter.ensures.source (omega arith)) refl (λ x b q k. search (rules, tests)))
    (λ s x r q k. search (rules, tests))
    ∙ array-on h a.self.regions a.self.key a.q _ refl
