use Rattle.std.proofs.Common.{rules, tests, refl, ap, ◌∙◌, arith}
use Rattle.std.proofs.lemmas.Iterator.{YieldsList-from_range}
use Rattle.std.proofs.lemmas.Iterator.Consumers.{YieldsList-from_filter, fold_from_yields_List}
use Rattle.std.specs.Iterator.Adapters.{filter_source}
use Rattle.program.specs.Lookup.{holds_key}
use Rattle.note.specs.Choice.{add_region, starts_off}
use Rattle.note.proofs.Choosing.{array-off}
use Rattle.note.proofs.choice.Query.choose_off.Goals as goal

pub returns : goal.returns
returns c =
    let a = c.args in
    fold_from_yields_List _ (λ x i. add_region i x) _ c.fold.result c.fold.ensures.ran
    (YieldsList-from_filter _ (starts_off a.self.words.now a.self.vel a.self.draw a.s)
    (YieldsList-from_filter _ (holds_key a.self.words.now a.self.key) (YieldsList-from_range 0 a.self.regions a.self.regions (ap filter_source c.filter-2.ensures.source ∙ c.filter.ensures.source) (omega arith)) refl (λ x b q k. search (rules, tests)))
    refl (λ x b q k. search (rules, tests)))
    (λ s x r q k. search (rules, tests))
    ∙ array-off a.self.words.now a.self.vel a.self.draw a.s a.self.regions a.self.key _ refl
