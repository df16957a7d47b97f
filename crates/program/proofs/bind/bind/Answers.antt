use Rattle.std.proofs.Common.{sym, ◌∙◌, arith}
use Rattle.program.proofs.Binding.{few-regions, few-samples, few-parts}
use Rattle.program.proofs.bind.bind.Goals as goal

pub overflow_cast-n : goal.overflow_cast-n
overflow_cast-n c = let h = few-regions _ _ (sym c.counts_ok.ensures ∙ c.if-not-counts_ok.false) in record { fits = omega arith }

pub overflow_cast-m : goal.overflow_cast-m
overflow_cast-m c = let h = few-samples _ _ (sym c.counts_ok.ensures ∙ c.if-not-counts_ok.false) in record { fits = omega arith }

pub first_bad_region-requires : goal.first_bad_region-requires
first_bad_region-requires c = few-parts _ _ (sym c.counts_ok.ensures ∙ c.if-not-counts_ok.false)

pub overflow_cast-result : goal.overflow_cast-result
overflow_cast-result c =
    let few = few-regions _ _ (sym c.counts_ok.ensures ∙ c.if-not-counts_ok.false) in
    let there = c.in-Some.ensures.there in record { fits = omega arith }

pub overflow_cast-result-in-Some-first_bad_sample : goal.overflow_cast-result-in-Some-first_bad_sample
overflow_cast-result-in-Some-first_bad_sample c =
    let few = few-samples _ _ (sym c.counts_ok.ensures ∙ c.if-not-counts_ok.false) in
    let there = c.in-Some-first_bad_sample.ensures.there in record { fits = omega arith }
