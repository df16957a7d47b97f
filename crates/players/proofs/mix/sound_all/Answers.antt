use mathlib.Core.Path.{refl, sym, ap, ◌∙◌}
use mathlib.Core.Bool.{Bool, ◌||◌}
use native.Mathlib.Omega.{arith}
use Rattle.players.proofs.Bands.{noted-yes, noted-no, going-none, going_fine, going-room, going_on, going-ok, going-over, going_done}
use Rattle.players.proofs.mix.sound_all.Goals as goal
use Rattle.players.proofs.mix.sound_all.Goals.{then-sound_one, else-sound_one}

pub loop-k-init : goal.loop-k-init
loop-k-init c = (omega arith, c.requires.1, refl, going-none _ _ _ _ _ c.requires.0)

pub sound_one-requires : goal.sound_one-requires
sound_one-requires c = let g = c.loop-k.invariant in
    (going_fine _ _ _ _ _ _ _ _ _ _ _ c.requires.0 g.3 c.loop-k-test.true _, g.1)

pub push_slot-requires : goal.push_slot-requires
push_slot-requires c = going-room _ _ _ _ _ _ _ _ _ _ _ c.loop-k.invariant.3 (omega (arith, c.requires.0.few, c.loop-k-test.true))

pub loop-k-preserved : goal.loop-k-preserved
loop-k-preserved c = let b = c.loop-k in
    let inside = c.loop-k-test.true in
    let y = c.sound_one in (
      omega (arith, inside),
      y.auto.right ∙ b.invariant.1 ∙ sym y.auto.left,
      y.auto.left ∙ b.invariant.2,
      going_on _ _ _ _ _ c.requires.0 _ _ _ _ _ _ b.invariant.3 inside _ (record { player = y.new.p; ended = y.result }) _ _ y.ensures.0 _ _ y.ensures.1
          (elim c.if-sound_one.branch [ then-sound_one w ↦ noted-yes y.result _ _ _ w.if-sound_one.true (w.ended-is ∙ w.push_slot.ensures) | else-sound_one w ↦ noted-no y.result _ _ _ w.if-sound_one.false w.ended-is ])
          (ap (λ (t : Bool). b.over || t) c.is_over-over.ensures),
    )

pub shape_of-left : goal.shape_of-left
shape_of-left c = c.loop-k.invariant.2

pub shape_of-right : goal.shape_of-right
shape_of-right c = let g = c.loop-k.invariant in g.1 ∙ g.2 ∙ sym c.requires.1

pub returns : goal.returns
returns c = let ok = c.requires.0 in
    let g = c.loop-k.invariant in
    let left = c.loop-k-test.false in (
      going_done _ _ _ _ _ ok _ _ _ _ _ _ g.3 g.0 left,
      going-over _ _ _ _ _ ok _ _ _ _ _ _ g.3 g.0 left,
      going-ok _ _ _ _ _ ok _ _ _ _ _ _ g.3 g.0 left,
    )
