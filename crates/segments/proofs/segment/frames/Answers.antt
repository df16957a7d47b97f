use mathlib.Core.Path.{◌≡◌, refl, ap, sym, ◌∙◌}
use mathlib.Core.Bool.{false}
use Prim.Native.Nat.{ℕ, ◌≤◌, ◌+◌}
use native.Mathlib.Nat.{add-zero, le_antisymm}
use native.Mathlib.Omega.{arith}
use lib.ListN.{length, length-take}
use borrow.Author.Rules.{rules}
use Rattle.filter.proofs.First.{chained-first, AllStages-first}
use Rattle.segments.specs.Source.{sound_of}
use Rattle.segments.specs.Segment.{run_for, after_run}
use Rattle.segments.proofs.Kept.{suited-of, none-read, known-reads, ready}
use Rattle.segments.proofs.Resting.{carried, forward}
use Rattle.segments.proofs.Runs.{more, ended}
use Rattle.segments.proofs.segment.frames.Goals as goal
use Rattle.segments.proofs.segment.frames.Goals.{then-suited, else-suited}

pub loop-j-init : goal.loop-j-init
unfolding run_for
loop-j-init c = (omega arith, refl, c.requires.3, c.requires.2, refl, search rules)

pub play_plain-rested-requires : goal.play_plain-rested-requires
play_plain-rested-requires c = (c.requires.0, c.loop-j.invariant.3, omega (arith, c.loop-j.invariant.0, c.loop-j.invariant.1), c.loop-j.invariant.2 ∙ sym c.loop-j.invariant.1)

pub overflow_sub-n : goal.overflow_sub-n
overflow_sub-n c = omega (arith, c.play_plain-rested.ensures.to, c.loop-j.invariant.1)

pub ahead-count-requires : goal.ahead-count-requires
ahead-count-requires c = (c.requires.0, c.play_plain-rested.ensures.position, suited-of _ _ c.requires.0.half (sym c.suits-suited.ensures ∙ c.if-suited.true), c.loop-j.invariant.5)

pub chunk_end-stop-requires : goal.chunk_end-stop-requires
chunk_end-stop-requires c = omega (arith, c.play_plain-rested.ensures.to, c.loop-j.invariant.1)

pub loop-at-init : goal.loop-at-init
loop-at-init c = (c.play_plain-rested.auto.out_l ∙ c.loop-j.invariant.1, c.play_plain-rested.auto.out_r ∙ c.loop-j.invariant.2, c.play_plain-rested.ensures.position, λ x e. e ∙ ap (λ (i : ℕ). run_for c.args.cold c.args.slots (sound_of c.args.lent) i x) (sym (add-zero _)))

pub loop-j-smaller : goal.loop-j-smaller
loop-j-smaller c = let n = length c.args.out_l.now in let r = c.play_plain-rested in let l : r.result.next ≤ n = omega (arith, r.ensures.to, c.loop-j.invariant.1) in let f = forward c.loop-j.j r.result.next n c.chunk_end-stop.result c.loop-j-test.true r.ensures.from c.chunk_end-stop.ensures.2 c.chunk_end-stop.ensures.3 l in omega (arith, f, c.chunk_end-stop.ensures.0, c.loop-j-test.true)

pub loop-j-preserved : goal.loop-j-preserved
loop-j-preserved c =
    let e = c.args in
    let l = c.loop-j in
    let r = c.play_plain-rested in
    let so_far = carried e.cold e.slots (sound_of e.lent) l.j r.result.next _ _ _ r.ensures.from l.invariant.4 (r.ensures.runs e.slots l.states e.lent.table.now) in
    let z : r.result.next + c.loop-at.at ≡ c.chunk_end-stop.result = omega (arith, c.loop-at.auto.at-end, c.loop-at-test.false, c.chunk_end-stop.ensures.3) in
    (c.chunk_end-stop.ensures.0, c.loop-at.invariant.0, c.loop-at.invariant.1, c.loop-at.invariant.2, c.loop-at.invariant.3 _ so_far ∙ ap (λ (i : ℕ). run_for e.cold e.slots (sound_of e.lent) i (record { hot = e.hot; states = e.states.now; left = e.out_l.now; right = e.out_r.now; done = false })) z, (elim c.if-suited.branch [ then-suited w ↦ rw w.kept-is w.ahead-count.ensures.1.many | else-suited w ↦ rw w.kept-is c.loop-j.invariant.5 ]))

pub kept_at-k-requires : goal.kept_at-k-requires
kept_at-k-requires c = elim c.if-suited.branch [ then-suited w ↦ rw w.count-is w.ahead-count.ensures.0 | else-suited w ↦ rw w.count-is (omega arith) ]

pub next_frame-requires : goal.next_frame-requires
next_frame-requires c = (c.requires.0, c.loop-at.invariant.2, known-reads c.args.cold (sound_of c.args.lent) _ _ _ _ (elim c.if-suited.branch [ then-suited w ↦ (ready c.args.cold (sound_of c.args.lent) _ _ _ _ w.count-is w.kept-is w.ahead-count.ensures).1 | else-suited w ↦ (ready c.args.cold (sound_of c.args.lent) _ _ _ _ w.count-is w.kept-is (omega arith, none-read _ _ _ c.loop-j.invariant.5)).1 ]) c.kept_at-k.ensures)

pub shape_of-out_l-in-Over : goal.shape_of-out_l-in-Over
shape_of-out_l-in-Over c = c.loop-at.invariant.0

pub shape_of-out_r-in-Over : goal.shape_of-out_r-in-Over
shape_of-out_r-in-Over c = c.loop-at.invariant.1 ∙ sym c.requires.3

pub returns-in-Over : goal.returns-in-Over
returns-in-Over c =
    let e = c.args in
    let l = c.loop-j in
    let r = c.play_plain-rested in
    let so_far = carried e.cold e.slots (sound_of e.lent) l.j r.result.next _ _ _ r.ensures.from l.invariant.4 (r.ensures.runs e.slots l.states e.lent.table.now) in
    (ended _ _ _ _ _ c.next_frame.result (r.result.next + c.loop-at.at) refl (c.loop-at.invariant.3 _ so_far) c.next_frame.ensures.0 c.in-Over.g _ (omega (arith, c.loop-at-test.true, c.chunk_end-stop.ensures.0)) c.in-Over.is, rw c.in-Over.is at c.next_frame.ensures.1)

pub filtered-v-requires : goal.filtered-v-requires
filtered-v-requires c = let n = length-take c.args.cold.n_filters c.args.slots in (omega (arith, n, c.requires.0.filters), AllStages-first c.args.slots c.args.cold.n_filters c.requires.1)

pub add_at-requires : goal.add_at-requires
add_at-requires c = omega (arith, c.loop-at-test.true, c.loop-at.invariant.0, c.chunk_end-stop.ensures.0)

pub add_at-requires-in-loop-at : goal.add_at-requires-in-loop-at
add_at-requires-in-loop-at c = omega (arith, c.loop-at-test.true, c.loop-at.invariant.1, c.chunk_end-stop.ensures.0)

pub loop-at-preserved : goal.loop-at-preserved
loop-at-preserved c = let head = c.loop-at in
    let next = c.next_frame in
    let filtered = c.filtered-v in
    let k = c.play_plain-rested.result.next + head.at in
    let z : k + 1 ≡ c.play_plain-rested.result.next + (head.at + 1) = omega arith in
    (c.add_at.auto.out ∙ head.invariant.0, c.add_at-in-loop-at.auto.out ∙ head.invariant.1, rw c.in-Sounds.is at next.ensures.1, λ x e. rw (c.add_at.ensures, c.add_at-in-loop-at.ensures, c.share_of.ensures, c.share_of-in-loop-at.ensures) (more _ _ _ x _ next.result k refl (head.invariant.3 x e) next.ensures.0 c.in-Sounds.f (record { l = filtered.result.l; r = filtered.result.r; states = filtered.new.states }) c.in-Sounds.is (filtered.ensures ∙ chained-first c.args.slots c.args.cold.n_filters c.args.cold.stereo _ (omega (arith, c.filtered-v.array_long, c.requires.0.filters))) ∙ ap (λ (i : ℕ). run_for c.args.cold c.args.slots (sound_of c.args.lent) i x) z))

pub shape_of-out_l : goal.shape_of-out_l
shape_of-out_l c = c.loop-j.invariant.1

pub shape_of-out_r : goal.shape_of-out_r
shape_of-out_r c = c.loop-j.invariant.2 ∙ sym c.requires.3

pub returns : goal.returns
returns c = (ap after_run (rw (le_antisymm c.loop-j.invariant.0 c.loop-j-test.false) at c.loop-j.invariant.4), c.loop-j.invariant.3)
