use Rattle.block.proofs.Framing.{reach-first, reach-next, reach-last, reach-end, beyond, strike-there, gate-there, time-fits}
use Rattle.block.proofs.Parts.{under, on_stage, same-under, same-stage, part_length, Heard, heard-as, heard-none, heard-settled, heard-calm, Marked, marked-as, marked-some, marked-none, Acted, acted-as, acted-still, acted-edge, acted-scene}
use Rattle.block.specs.Render.{Scene}
use Rattle.block.specs.Inputs.{Cues, signals_of}
use Rattle.block.specs.declared.BlockTime.{BlockTime}
use Rattle.block.specs.declared.inputs.Inputs.{Inputs}
use lib.Ieee.{Float}
use mathlib.Core.List.{List}
use Rattle.block.specs.declared.Playing.{Playing}
use mathlib.Core.Path.{◌∙◌, refl, sym}
use native.Mathlib.Omega.{arith}
use Prim.Native.Nat.{ℕ, ◌-◌, ◌+◌}
use Rattle.block.proofs.frames.play_frames.Goals as goal
use Rattle.block.proofs.frames.play_frames.Goals.{then-from-ev+then-unsettled, then-from-ev+else-unsettled, else-from-ev, then-is_some, else-is_some, then-gate_turns, else-gate_turns}
use Rattle.block.proofs.frames.play_frames.Lts as lts
use Rattle.block.proofs.frames.play_frames.Reads as reads
use Rattle.block.proofs.frames.play_frames.Tie as tie

abbrev In_loop_from : Type 0
In_loop_from = lts.In-loop tie.the-claims reads.Pre reads.Post goal.the-invariant-loop-from goal.the-decreases-loop-from

abbrev Joined_from_ev : Type 0
Joined_from_ev = lts.Joined1 tie.the-claims reads.Pre reads.Post goal.the-invariant-loop-from goal.the-decreases-loop-from

abbrev Joined_is_some : Type 0
Joined_is_some = lts.Joined4 tie.the-claims reads.Pre reads.Post goal.the-invariant-loop-from goal.the-decreases-loop-from

abbrev Joined_gate_turns : Type 0
Joined_gate_turns = lts.Joined5 tie.the-claims reads.Pre reads.Post goal.the-invariant-loop-from goal.the-decreases-loop-from

-- ---- where the loop's turn begins

abbrev cues : BlockTime → Inputs → List ℕ → List ℕ → List Float → List Float → Cues
cues t x ws ss ps ts = record { time = t; words = ws; samples = ss; pcm = ps; table = ts; inputs = signals_of x }

abbrev scene : In_loop_from → Scene
scene c = let l = c.loop-from in on_stage (under l.session l.voice l.waiting l.from) l.left l.right

-- ---- the frames before the event

-- the part has sounded
abbrev scene_part : Joined_from_ev → Scene
scene_part c = let y = c.if-from-ev in on_stage (under y.session y.voice c.loop-from.waiting y.from) y.left y.right

heard : (c : Joined_from_ev) → Heard (cues c.args.t c.args.inputs c.args.words.now c.args.samples.now c.args.pcm.now c.args.table.now) (scene c.before) c.loop-from.ev (scene_part c)
heard c =
    let l = c.loop-from in
    let u = cues c.args.t c.args.inputs c.args.words.now c.args.samples.now c.args.pcm.now c.args.table.now in
    elim c.if-from-ev.branch [
      | then-from-ev+then-unsettled w ↦ heard-as (same-stage w.left-is w.right-is (same-under w.session-is w.voice-is refl w.from-is))
          (heard-settled u (scene c.before) l.ev l.invariant.ok l.invariant.left l.invariant.right w.if-from-ev.true _ w.sound_all-m.ensures.0 w.sound_all-m.auto.left w.sound_all-m.auto.right w.settle-b.result w.settle-b.ensures.0 w.settle-b.ensures.1)
      | then-from-ev+else-unsettled w ↦ heard-as (same-stage w.left-is w.right-is (same-under w.session-is w.voice-is refl w.from-is))
          (heard-calm u (scene c.before) l.ev l.invariant.ok l.invariant.left l.invariant.right w.if-from-ev.true _ w.sound_all-m.ensures.0 w.sound_all-m.auto.left w.sound_all-m.auto.right w.sound_all-m.result.over w.unsettled.result w.sound_all-m.ensures.1 w.unsettled.ensures w.if-unsettled.false w.sound_all-m.ensures.2)
      | else-from-ev w ↦ heard-as (same-stage w.left-is w.right-is (same-under w.session-is w.voice-is refl w.from-is)) (heard-none u (scene c.before) l.ev l.invariant.ok l.invariant.left l.invariant.right l.invariant.behind w.if-from-ev.false)
    ]

-- ---- its events

-- off times have acted
abbrev playing_marked : Joined_is_some → Playing
playing_marked c = let y = c.if-is_some in under y.session y.voice y.waiting c.if-from-ev.from

marked : (c : Joined_is_some) → Marked (cues c.args.t c.args.inputs c.args.words.now c.args.samples.now c.args.pcm.now c.args.table.now) c.loop-from.ev (scene_part c.before.before.before.before.before.before).playing (playing_marked c)
marked c =
    let u = cues c.args.t c.args.inputs c.args.words.now c.args.samples.now c.args.pcm.now c.args.table.now in
    let ev = c.loop-from.ev in
    let p = (scene_part c.before.before.before.before.before.before).playing in
    elim c.if-is_some.branch [
      | then-is_some w ↦ marked-as (same-under w.session-is w.voice-is w.waiting-is refl) (marked-some u ev p w.off_turns-r.result w.off_turns-r.ensures.0 w.off_turns-r.ensures.1)
      | else-is_some w ↦ marked-as (same-under w.session-is w.voice-is w.waiting-is refl) (marked-none u ev p (heard c.before.before.before.before.before.before).ok c.first_off.result c.first_off.ensures (sym c.is_some.ensures ∙ w.if-is_some.false))
    ]

-- the events have acted
abbrev playing_acted : Joined_gate_turns → Playing
playing_acted c = under c.if-gate_turns.session c.if-gate_turns.voice c.if-is_some.waiting c.if-from-ev.from

acted : (c : Joined_gate_turns) → Acted (cues c.args.t c.args.inputs c.args.words.now c.args.samples.now c.args.pcm.now c.args.table.now) c.loop-from.ev (scene_part c.before.before.before.before.before.before.before.before.before.before).playing (playing_acted c)
acted c =
    let u = cues c.args.t c.args.inputs c.args.words.now c.args.samples.now c.args.pcm.now c.args.table.now in
    let ev = c.loop-from.ev in
    let p = (scene_part c.before.before.before.before.before.before.before.before.before.before).playing in
    let q = playing_marked c.before.before.before.before in
    let m = marked c.before.before.before.before in
    let g = c.gate_at-g in
    let t = c.gate_turns in
    elim c.if-gate_turns.branch [
      | then-gate_turns w ↦ acted-as (same-under w.session-is w.voice-is refl refl) (acted-edge u ev p q m g.result t.result g.ensures t.ensures w.if-gate_turns.true w.strike_at-k.result w.strike_at-k.ensures w.edge-b.result w.edge-b.ensures.0 w.edge-b.ensures.1)
      | else-gate_turns w ↦ acted-as (same-under w.session-is w.voice-is refl refl) (acted-still u ev p q m g.result t.result g.ensures t.ensures w.if-gate_turns.false)
    ]

pub next_event-ev-requires : goal.next_event-ev-requires
next_event-ev-requires c = (c.requires.2.some, omega arith, c.requires.2.gate)

pub loop-from-init : goal.loop-from-init
loop-from-init c = reach-first (cues c.args.t c.args.inputs c.args.words.now c.args.samples.now c.args.pcm.now c.args.table.now) (on_stage c.args.p c.args.left.now c.args.right.now) _ c.next_event-ev.ensures c.requires.0 c.requires.1 c.requires.3 c.requires.4

pub sound_all-m-requires : goal.sound_all-m-requires
sound_all-m-requires c = let l = c.loop-from in
    (l.invariant.ok.voice.players, part_length l.from l.ev l.left l.right (l.invariant.right ∙ sym l.invariant.left))

pub settle-b-requires : goal.settle-b-requires
settle-b-requires c = c.sound_all-m.ensures.2

pub off_turns-r-requires : goal.off_turns-r-requires
off_turns-r-requires c =
    ((heard c.before.before.before.before.before.before.before).ok, time-fits (cues c.args.t c.args.inputs c.args.words.now c.args.samples.now c.args.pcm.now c.args.table.now) c.requires.2 c.loop-from.ev c.if-ev-n.true)

pub gate_at-g-requires : goal.gate_at-g-requires
gate_at-g-requires c =
    gate-there (cues c.args.t c.args.inputs c.args.words.now c.args.samples.now c.args.pcm.now c.args.table.now) c.requires.2 c.loop-from.ev c.if-ev-n.true

pub overflow_add-at : goal.overflow_add-at
overflow_add-at c = omega (arith, c.requires.2.offset, c.requires.2.most, c.if-ev-n.true)

pub strike_at-k-requires : goal.strike_at-k-requires
strike_at-k-requires c = strike-there (cues c.args.t c.args.inputs c.args.words.now c.args.samples.now c.args.pcm.now c.args.table.now) c.requires.2 c.loop-from.ev c.if-ev-n.true

pub edge-b-requires : goal.edge-b-requires
edge-b-requires c = (marked c.before.before.before.before.before.before.before).ok.voice

pub overflow_add-ev : goal.overflow_add-ev
overflow_add-ev c = omega (arith, c.requires.2.most, c.if-ev-n.true)

pub next_event-ev-requires-then-ev-n : goal.next_event-ev-requires-then-ev-n
next_event-ev-requires-then-ev-n c = (c.requires.2.some, omega (arith, c.if-ev-n.true), c.requires.2.gate)

pub loop-from-smaller-then-ev-n : goal.loop-from-smaller-then-ev-n
loop-from-smaller-then-ev-n c = let l = c.loop-from in
    let e = beyond (cues c.args.t c.args.inputs c.args.words.now c.args.samples.now c.args.pcm.now c.args.table.now) (on_stage (playing_acted c.before.before.before.before) c.if-from-ev.left c.if-from-ev.right) (l.ev + 1) c.next_event-ev-then-ev-n.result c.next_event-ev-then-ev-n.ensures in
    omega (arith, e, (heard c.before.before.before.before.before.before.before.before.before.before.before.before.before.before).at, l.invariant.behind, c.if-ev-n.true)

pub loop-from-preserved-then-ev-n : goal.loop-from-preserved-then-ev-n
loop-from-preserved-then-ev-n c =
    let l = c.loop-from in
    let h = heard c.before.before.before.before.before.before.before.before.before.before.before.before.before.before in
    let a = acted c.before.before.before.before in
    reach-next (cues c.args.t c.args.inputs c.args.words.now c.args.samples.now c.args.pcm.now c.args.table.now) (on_stage c.args.p c.args.left.now c.args.right.now) (scene c.before.before.before.before.before.before.before.before.before.before.before.before.before.before.before) l.ev l.invariant (on_stage (playing_acted c.before.before.before.before) c.if-from-ev.left c.if-from-ev.right) a.ok h.left h.right h.at c.if-ev-n.true
    (acted-scene (cues c.args.t c.args.inputs c.args.words.now c.args.samples.now c.args.pcm.now c.args.table.now) (scene c.before.before.before.before.before.before.before.before.before.before.before.before.before.before.before) l.ev (scene_part c.before.before.before.before.before.before.before.before.before.before.before.before.before.before) h (playing_acted c.before.before.before.before) a) c.next_event-ev-then-ev-n.result c.next_event-ev-then-ev-n.ensures

pub loop-from-smaller : goal.loop-from-smaller
loop-from-smaller c = let l = c.loop-from in
    omega (arith, (heard c.before.before).at, l.invariant.within, c.loop-from-test.true, c.if-ev-n.false)

pub loop-from-preserved : goal.loop-from-preserved
loop-from-preserved c =
    let l = c.loop-from in
    let h = heard c.before.before in
    reach-last (cues c.args.t c.args.inputs c.args.words.now c.args.samples.now c.args.pcm.now c.args.table.now) (on_stage c.args.p c.args.left.now c.args.right.now) (scene c.before.before.before) l.ev l.invariant (scene_part c.before.before) h.ok h.left h.right h.at c.if-ev-n.false h.is

pub shape_of-left : goal.shape_of-left
shape_of-left c = c.loop-from.invariant.left ∙ sym c.requires.3

pub shape_of-right : goal.shape_of-right
shape_of-right c = c.loop-from.invariant.right ∙ sym c.requires.4

pub returns : goal.returns
returns c = let l = c.loop-from in
    (reach-end (cues c.args.t c.args.inputs c.args.words.now c.args.samples.now c.args.pcm.now c.args.table.now) (on_stage c.args.p c.args.left.now c.args.right.now) (on_stage (under l.session l.voice l.waiting l.from) l.left l.right) l.ev l.invariant c.loop-from-test.false, l.invariant.ok.voice.players)
