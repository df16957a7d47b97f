use Rattle.std.proofs.Common.{sym, ◌∙◌}
use Rattle.program.proofs.Binding.{wrong-sizes, wrong-counts, few-parts, wrong-region, last-test}
use Rattle.program.proofs.bind.program_ok.Goals as goal

pub returns-then-not-sizes_ok : goal.returns-then-not-sizes_ok
returns-then-not-sizes_ok c = let a = c.args in wrong-sizes a.b a.words.now a.samples.now a.frames a.table (sym c.sizes_ok.ensures ∙ c.if-not-sizes_ok.true)

pub returns-then-not-counts_ok : goal.returns-then-not-counts_ok
returns-then-not-counts_ok c =
    let a = c.args in
    wrong-counts a.b a.words.now a.samples.now a.frames a.table (sym c.sizes_ok.ensures ∙ c.if-not-sizes_ok.false) (sym c.counts_ok.ensures ∙ c.if-not-counts_ok.true)

pub regions_ok-requires : goal.regions_ok-requires
regions_ok-requires c = few-parts _ _ (sym c.counts_ok.ensures ∙ c.if-not-counts_ok.false)

pub returns-then-regions_ok : goal.returns-then-regions_ok
returns-then-regions_ok c =
    let a = c.args in
    last-test a.b a.words.now a.samples.now a.frames a.table (sym c.sizes_ok.ensures ∙ c.if-not-sizes_ok.false) (sym c.counts_ok.ensures ∙ c.if-not-counts_ok.false)
    c.regions_ok.result c.regions_ok.ensures c.if-regions_ok.true c.shapes_ok.result c.shapes_ok.ensures

pub returns-else-regions_ok : goal.returns-else-regions_ok
returns-else-regions_ok c =
    let a = c.args in
    wrong-region a.b a.words.now a.samples.now a.frames a.table (sym c.sizes_ok.ensures ∙ c.if-not-sizes_ok.false) (sym c.counts_ok.ensures ∙ c.if-not-counts_ok.false)
    c.regions_ok.result c.regions_ok.ensures c.if-regions_ok.false
