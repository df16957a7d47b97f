use Rattle.events.specs.Voice.{Kit}
use Rattle.block.proofs.Scenes.{first-there, turn-count, turns_more, turns-over}
use Rattle.block.specs.declared.Playing.{Playing}
use native.Mathlib.Omega.{arith}
use Prim.Native.Nat.{ℕ, ◌-◌}
use mathlib.Core.Path.{◌≡◌, sym, ap, ◌∙◌}
use Rattle.block.proofs.turns.off_turns.Goals as goal

pub off_turn-q-requires : goal.off_turn-q-requires
off_turn-q-requires c = let a = c.args in let l = c.loop-j in
    let h = first-there a.t a.i l.q.offs l.invariant.0.offs c.in-Some.j (sym c.first_off.ensures ∙ c.in-Some.is) in
    (l.invariant.0, c.requires.1, h.0, h.1)

pub loop-j-smaller : goal.loop-j-smaller
loop-j-smaller c = let a = c.args in let l = c.loop-j in
    let k : Kit = record { words = a.words.now; samples = a.samples.now } in
    let h = first-there a.t a.i l.q.offs l.invariant.0.offs c.in-Some.j (sym c.first_off.ensures ∙ c.in-Some.is) in
    let e : c.off_turn-q.result.offs.count ≡ l.q.offs.count - 1 = ap (λ (y : Playing). y.offs.count) c.off_turn-q.ensures.0 ∙ turn-count k a.t a.i l.q in
    omega (arith, e, h.1)

pub loop-j-preserved : goal.loop-j-preserved
loop-j-preserved c = let a = c.args in let l = c.loop-j in
    let k : Kit = record { words = a.words.now; samples = a.samples.now } in
    (c.off_turn-q.ensures.1, l.invariant.1 ∙ turns_more k a.t a.i l.q l.invariant.0.offs c.in-Some.j (sym c.first_off.ensures ∙ c.in-Some.is) c.off_turn-q.result c.off_turn-q.ensures.0)

pub returns : goal.returns
returns c = let a = c.args in let l = c.loop-j in
    let k : Kit = record { words = a.words.now; samples = a.samples.now } in
    (sym (l.invariant.1 ∙ turns-over k a.t a.i l.q l.invariant.0.offs (sym c.first_off.ensures ∙ c.in_default.is)), l.invariant.0)
