use mathlib.Core.Path.{◌≡◌, sym, subst, ◌∙◌}
use Prim.Native.Nat.{ℕ, ◌+◌, ◌*◌}
use native.Mathlib.Nat.{le_antisymm}
use native.Mathlib.Omega.{arith}
use Rattle.player.specs.Bounds.{LoopOk}
use Rattle.segments.specs.Source.{sound_of}
use Rattle.segments.specs.Ahead.{AllRead}
use Rattle.segments.proofs.Kept.{all-inner-of, none-read}
use Rattle.segments.proofs.Positions.{current-ok}
use Rattle.segments.proofs.ahead.ahead.Goals as goal

pub returns-then-hot : goal.returns-then-hot
returns-then-hot c = (omega arith, none-read _ _ _ c.requires.3)

pub place-p-requires : goal.place-p-requires
place-p-requires c = (subst LoopOk (sym c.looping-lp.ensures) (current-ok _ _ _ c.requires.0.lp), c.requires.1)

pub overflow_cast-h : goal.overflow_cast-h
overflow_cast-h c = omega (arith, c.requires.0.half)

pub loop-k-init : goal.loop-k-init
loop-k-init c = record { place = c.place-p.ensures.1; read = none-read _ _ _ c.requires.3; placed = tt }

pub nexts-x-requires : goal.nexts-x-requires
nexts-x-requires c = (subst LoopOk (sym c.looping-lp.ensures) (current-ok _ _ _ c.requires.0.lp), c.loop-k.invariant.place, c.requires.0.step)

pub inside-requires : goal.inside-requires
inside-requires c = (c.nexts-x.ensures, c.requires.0.half)

pub returns-then-not-inside : goal.returns-then-not-inside
returns-then-not-inside c = (omega (arith, c.fours_in-fours.ensures, c.loop-k-test.true), c.loop-k.invariant.read)

pub four-requires : goal.four-requires
four-requires c = (c.nexts-x.ensures, all-inner-of _ _ _ (sym c.inside.ensures ∙ c.if-not-inside.false), c.requires.2, omega (arith, c.fours_in-fours.ensures, c.loop-k-test.true), c.loop-k.invariant.read, c.loop-k.invariant.placed)

pub after-p-requires : goal.after-p-requires
after-p-requires c = (subst LoopOk (sym c.looping-lp.ensures) (current-ok _ _ _ c.requires.0.lp), c.nexts-x.ensures.p3, c.requires.0.step)

pub loop-k-preserved : goal.loop-k-preserved
loop-k-preserved c =
    let z : 4 * c.loop-k.k + 4 ≡ 4 * (c.loop-k.k + 1) = omega arith in
    record { place = c.after-p.ensures; read = subst (λ (n : ℕ). AllRead c.args.cold (sound_of c.args.lent) n c.four.new.kept) z c.four.ensures.0; placed = c.four.ensures.1 }

pub returns : goal.returns
returns c = (omega (arith, c.fours_in-fours.ensures), rw (le_antisymm c.loop-k.auto.k-end c.loop-k-test.false) at c.loop-k.invariant.read)
