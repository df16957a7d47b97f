use mathlib.Core.Path.{◌≡◌, refl, sym, ap, ◌∙◌}
use mathlib.Core.List.{List}
use Prim.Native.Nat.{ℕ}
use borrow.Author.Rules.{rules}
use lib.ListN.{length}
use lib.Ieee.{Float}
use borrow.Author.Tests.{not-true}
use Rattle.block.specs.Inputs.{Lent, signals_of}
use Rattle.block.specs.declared.BlockTime.{BlockTime}
use Rattle.block.specs.declared.inputs.Inputs.{Inputs}
use Rattle.block.proofs.Wholes.{covers-as}
use Rattle.causes.proofs.Calming.{look-state, look-time, late, cond-some, cond-none}
use Rattle.causes.proofs.Idle.{gate-covers, amp-covers}
use Rattle.causes.proofs.Passed.{in_left, in_right, part_length, ready}
use Rattle.voice.proofs.Refusals.{block-7, block-8, block-9, block_out}
use Rattle.voice.proofs.Calming.{calm-told, calm-asks, calm-out, left_by, stays-as}
use Rattle.voice.proofs.Idle.{quiet-out}
use Rattle.voice.proofs.Numbers.{block-promise}
use Rattle.voice.proofs.block.Goals as goal

-- what the call was lent, as its promise has it
abbrev lent_as : BlockTime → List ℕ → List ℕ → List Float → List Float → Inputs → List Float → List Float → Lent
lent_as t ws ss pcm table x left right =
    record { time = t; words = ws; samples = ss; pcm = pcm; table = table; inputs = signals_of x; left = left; right = right }

pub returns-then-not-parts_fit : goal.returns-then-not-parts_fit
returns-then-not-parts_fit c = let a = c.args in let l = lent_as a.t a.words.now a.samples.now a.pcm.now a.table.now a.inputs a.left.now a.right.now in block-promise l a.s a.v (block-7 l a.s a.v _ c.with_answer.ensures (sym c.parts_fit.ensures ∙ c.if-not-parts_fit.true))

pub is_quiet-requires : goal.is_quiet-requires
is_quiet-requires c = let a = c.args in let l = lent_as a.t a.words.now a.samples.now a.pcm.now a.table.now a.inputs a.left.now a.right.now in gate-covers l (sym c.parts_fit.ensures ∙ c.if-not-parts_fit.false)

pub slice_bounds-quiet_outputs-end : goal.slice_bounds-quiet_outputs-end
slice_bounds-quiet_outputs-end c = let a = c.args in let l = lent_as a.t a.words.now a.samples.now a.pcm.now a.table.now a.inputs a.left.now a.right.now in in_left l a.s a.v (sym c.parts_fit.ensures ∙ c.if-not-parts_fit.false)

pub slice_bounds-quiet_outputs-end-then-is_quiet : goal.slice_bounds-quiet_outputs-end-then-is_quiet
slice_bounds-quiet_outputs-end-then-is_quiet c = let a = c.args in let l = lent_as a.t a.words.now a.samples.now a.pcm.now a.table.now a.inputs a.left.now a.right.now in in_right l a.s a.v (sym c.parts_fit.ensures ∙ c.if-not-parts_fit.false)

pub quiet_outputs-requires : goal.quiet_outputs-requires
quiet_outputs-requires c = let a = c.args in let l = lent_as a.t a.words.now a.samples.now a.pcm.now a.table.now a.inputs a.left.now a.right.now in (covers-as l.inputs.amp _ l.time.frames (part_length l.time.frames l.left (in_left l a.s a.v (sym c.parts_fit.ensures ∙ c.if-not-parts_fit.false))) (amp-covers l (sym c.parts_fit.ensures ∙ c.if-not-parts_fit.false)), covers-as l.inputs.amp _ l.time.frames (part_length l.time.frames l.right (in_right l a.s a.v (sym c.parts_fit.ensures ∙ c.if-not-parts_fit.false))) (amp-covers l (sym c.parts_fit.ensures ∙ c.if-not-parts_fit.false)))

pub returns-then-is_quiet : goal.returns-then-is_quiet
returns-then-is_quiet c = let a = c.args in let l = lent_as a.t a.words.now a.samples.now a.pcm.now a.table.now a.inputs a.left.now a.right.now in block-promise l a.s a.v (quiet-out l a.s a.v (sym c.is_quiet.ensures ∙ c.if-is_quiet.true) c.well_formed.0.1.1.0.1.0.1 (sym c.parts_fit.ensures ∙ c.if-not-parts_fit.false) _ c.with_answer-then-is_quiet.ensures _ _ c.quiet_outputs.ensures.0 c.quiet_outputs.ensures.1 (search rules) (search rules))

pub returns-then-state_fits : goal.returns-then-state_fits
returns-then-state_fits c = let a = c.args in let l = lent_as a.t a.words.now a.samples.now a.pcm.now a.table.now a.inputs a.left.now a.right.now in let state = sym c.state_fits.ensures ∙ c.if-state_fits.true in block-promise l a.s a.v (block-9 l a.s a.v (sym c.parts_fit.ensures ∙ c.if-not-parts_fit.false) state _ c.with_answer-then-state_fits.ensures (late l a.s a.v state (cond-none _ _ (sym c.look.ensures ∙ c.in_default.is))))

pub returns-in_default : goal.returns-in_default
returns-in_default c = let a = c.args in let l = lent_as a.t a.words.now a.samples.now a.pcm.now a.table.now a.inputs a.left.now a.right.now in block-promise l a.s a.v (block-8 l a.s a.v (sym c.parts_fit.ensures ∙ c.if-not-parts_fit.false) _ c.with_answer-in_default.ensures (sym c.state_fits.ensures ∙ c.if-state_fits.false))

pub is_calm-requires : goal.is_calm-requires
is_calm-requires c = let a = c.args in let l = lent_as a.t a.words.now a.samples.now a.pcm.now a.table.now a.inputs a.left.now a.right.now in gate-covers l (sym c.parts_fit.ensures ∙ c.if-not-parts_fit.false)

pub tune_of-x-requires : goal.tune_of-x-requires
tune_of-x-requires c = let a = c.args in let l = lent_as a.t a.words.now a.samples.now a.pcm.now a.table.now a.inputs a.left.now a.right.now in let p = calm-asks l a.s a.v (calm-told l a.s a.v _ (cond-some _ _ _ (sym c.look.ensures ∙ c.in-Some.is)) _ c.is_calm.ensures c.if-is_calm.true) c.well_formed.0.1.1.0.1.0.1 c.well_formed.1.0.1.1.1.1.1.1.1.1.1.0.1.1.0.1.0.1 (sym c.parts_fit.ensures ∙ c.if-not-parts_fit.false) in (p.4, p.5)

pub slice_bounds-play_calm-end : goal.slice_bounds-play_calm-end
slice_bounds-play_calm-end c = let a = c.args in let l = lent_as a.t a.words.now a.samples.now a.pcm.now a.table.now a.inputs a.left.now a.right.now in in_left l a.s a.v (sym c.parts_fit.ensures ∙ c.if-not-parts_fit.false)

pub slice_bounds-play_calm-end-then-is_calm : goal.slice_bounds-play_calm-end-then-is_calm
slice_bounds-play_calm-end-then-is_calm c = let a = c.args in let l = lent_as a.t a.words.now a.samples.now a.pcm.now a.table.now a.inputs a.left.now a.right.now in in_right l a.s a.v (sym c.parts_fit.ensures ∙ c.if-not-parts_fit.false)

pub play_calm-m-requires : goal.play_calm-m-requires
play_calm-m-requires c = let a = c.args in let l = lent_as a.t a.words.now a.samples.now a.pcm.now a.table.now a.inputs a.left.now a.right.now in let p = calm-asks l a.s a.v (calm-told l a.s a.v _ (cond-some _ _ _ (sym c.look.ensures ∙ c.in-Some.is)) _ c.is_calm.ensures c.if-is_calm.true) c.well_formed.0.1.1.0.1.0.1 c.well_formed.1.0.1.1.1.1.1.1.1.1.1.0.1.1.0.1.0.1 (sym c.parts_fit.ensures ∙ c.if-not-parts_fit.false) in (p.0, p.1, p.2, p.3)

pub returns-then-not-m : goal.returns-then-not-m
returns-then-not-m c = let a = c.args in let l = lent_as a.t a.words.now a.samples.now a.pcm.now a.table.now a.inputs a.left.now a.right.now in let m = c.play_calm-m in block-promise l a.s a.v
    (calm-out l a.s a.v (calm-told l a.s a.v _ (cond-some _ _ _ (sym c.look.ensures ∙ c.in-Some.is)) _ c.is_calm.ensures c.if-is_calm.true) c.well_formed.0.1.1.0.1.0.1 c.well_formed.1.0.1.1.1.1.1.1.1.1.1.0.1.1.0.1.0.1 (sym c.parts_fit.ensures ∙ c.if-not-parts_fit.false) _ _ c.with_answer-then-not-m.ensures _ _
    (left_by _ _ _ _ a.s a.v _ c.tune_of-x.ensures _ m.ensures.0 _ (stays-as _ a.s a.v _ m.ensures.2 c.if-m-eq0.true _ m.ensures.1 c.if-not-m.true))
    (search rules) (search rules))

pub returns-then-is_calm : goal.returns-then-is_calm
returns-then-is_calm c = let a = c.args in let l = lent_as a.t a.words.now a.samples.now a.pcm.now a.table.now a.inputs a.left.now a.right.now in let m = c.play_calm-m in block-promise l a.s a.v
    (calm-out l a.s a.v (calm-told l a.s a.v _ (cond-some _ _ _ (sym c.look.ensures ∙ c.in-Some.is)) _ c.is_calm.ensures c.if-is_calm.true) c.well_formed.0.1.1.0.1.0.1 c.well_formed.1.0.1.1.1.1.1.1.1.1.1.0.1.1.0.1.0.1 (sym c.parts_fit.ensures ∙ c.if-not-parts_fit.false) _ _ c.with_answer-then-is_calm.ensures _ _
    (left_by _ _ _ _ a.s a.v _ c.tune_of-x.ensures _ m.ensures.0 _ c.settle-b.ensures.0)
    (search rules) (search rules))

pub slice_bounds-play_block-end : goal.slice_bounds-play_block-end
slice_bounds-play_block-end c = let a = c.args in let l = lent_as a.t a.words.now a.samples.now a.pcm.now a.table.now a.inputs a.left.now a.right.now in in_left l a.s a.v (sym c.parts_fit.ensures ∙ c.if-not-parts_fit.false)

pub slice_bounds-play_block-end-2 : goal.slice_bounds-play_block-end-2
slice_bounds-play_block-end-2 c = let a = c.args in let l = lent_as a.t a.words.now a.samples.now a.pcm.now a.table.now a.inputs a.left.now a.right.now in in_right l a.s a.v (sym c.parts_fit.ensures ∙ c.if-not-parts_fit.false)

pub play_block-b-requires : goal.play_block-b-requires
play_block-b-requires c = let a = c.args in let l = lent_as a.t a.words.now a.samples.now a.pcm.now a.table.now a.inputs a.left.now a.right.now in ready l a.s a.v c.well_formed.1.0.1.1.1.1.1.1.1.1.1.0.1.1.0.1.0.1 (sym c.parts_fit.ensures ∙ c.if-not-parts_fit.false) (look-state l a.s a.v (cond-some _ _ _ (sym c.look.ensures ∙ c.in-Some.is)).0) (look-time l a.s a.v (cond-some _ _ _ (sym c.look.ensures ∙ c.in-Some.is)).0)

pub returns : goal.returns
returns c = let a = c.args in let l = lent_as a.t a.words.now a.samples.now a.pcm.now a.table.now a.inputs a.left.now a.right.now in block-promise l a.s a.v (block_out l a.s a.v (sym c.parts_fit.ensures ∙ c.if-not-parts_fit.false) (look-state l a.s a.v (cond-some _ _ _ (sym c.look.ensures ∙ c.in-Some.is)).0) (look-time l a.s a.v (cond-some _ _ _ (sym c.look.ensures ∙ c.in-Some.is)).0) _ _ c.with_answer-2.ensures _ _ c.play_block-b.ensures.0 (search rules) (search rules))
