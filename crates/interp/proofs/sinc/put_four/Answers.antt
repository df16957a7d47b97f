use Rattle.std.proofs.Common.{◌≡◌, length, length-set, ap, ◌∙◌, arith, rules}
use Rattle.interp.specs.Places.{place_of}
use Rattle.interp.proofs.Table.{place-fits, placed-next}
use Rattle.interp.proofs.Whole.{cast}
use Rattle.interp.proofs.sinc.put_four.Goals as goal

pub whole-w0-requires : goal.whole-w0-requires
whole-w0-requires c = place-fits _ c.place-y0.result (c.place-y0.ensures ∙ ap place_of c.crossings.ensures)

pub float_to_int-i0 : goal.float_to_int-i0
float_to_int-i0 c = (cast _ c.whole-w0.result (place-fits _ c.place-y0.result (c.place-y0.ensures ∙ ap place_of c.crossings.ensures)) c.whole-w0.ensures).signed

pub overflow_cast-i0 : goal.overflow_cast-i0
overflow_cast-i0 c = (cast _ c.whole-w0.result (place-fits _ c.place-y0.result (c.place-y0.ensures ∙ ap place_of c.crossings.ensures)) c.whole-w0.ensures).fits

pub whole-w1-requires : goal.whole-w1-requires
whole-w1-requires c = place-fits _ c.place-y1.result (c.place-y1.ensures ∙ ap place_of c.crossings-2.ensures)

pub float_to_int-i1 : goal.float_to_int-i1
float_to_int-i1 c = (cast _ c.whole-w1.result (place-fits _ c.place-y1.result (c.place-y1.ensures ∙ ap place_of c.crossings-2.ensures)) c.whole-w1.ensures).signed

pub overflow_cast-i1 : goal.overflow_cast-i1
overflow_cast-i1 c = (cast _ c.whole-w1.result (place-fits _ c.place-y1.result (c.place-y1.ensures ∙ ap place_of c.crossings-2.ensures)) c.whole-w1.ensures).fits

pub whole-w2-requires : goal.whole-w2-requires
whole-w2-requires c = place-fits _ c.place-y2.result (c.place-y2.ensures ∙ ap place_of c.crossings-3.ensures)

pub float_to_int-i2 : goal.float_to_int-i2
float_to_int-i2 c = (cast _ c.whole-w2.result (place-fits _ c.place-y2.result (c.place-y2.ensures ∙ ap place_of c.crossings-3.ensures)) c.whole-w2.ensures).signed

pub overflow_cast-i2 : goal.overflow_cast-i2
overflow_cast-i2 c = (cast _ c.whole-w2.result (place-fits _ c.place-y2.result (c.place-y2.ensures ∙ ap place_of c.crossings-3.ensures)) c.whole-w2.ensures).fits

pub whole-w3-requires : goal.whole-w3-requires
whole-w3-requires c = place-fits _ c.place-y3.result (c.place-y3.ensures ∙ ap place_of c.crossings-4.ensures)

pub float_to_int-i3 : goal.float_to_int-i3
float_to_int-i3 c = (cast _ c.whole-w3.result (place-fits _ c.place-y3.result (c.place-y3.ensures ∙ ap place_of c.crossings-4.ensures)) c.whole-w3.ensures).signed

pub overflow_cast-i3 : goal.overflow_cast-i3
overflow_cast-i3 c = (cast _ c.whole-w3.result (place-fits _ c.place-y3.result (c.place-y3.ensures ∙ ap place_of c.crossings-4.ensures)) c.whole-w3.ensures).fits

pub returns : goal.returns
returns c =
    let a : length c.args.entries.now ≡ 80 = search rules in
    let b : length c.args.parts.now ≡ 80 = search rules in
    let h = c.requires.0 in
    let p0 = c.place-y0.ensures ∙ ap place_of c.crossings.ensures in
    let i0 = (cast _ c.whole-w0.result (place-fits _ c.place-y0.result p0) c.whole-w0.ensures).is in
    let p1 = c.place-y1.ensures ∙ ap place_of c.crossings-2.ensures in
    let i1 = (cast _ c.whole-w1.result (place-fits _ c.place-y1.result p1) c.whole-w1.ensures).is in
    let p2 = c.place-y2.ensures ∙ ap place_of c.crossings-3.ensures in
    let i2 = (cast _ c.whole-w2.result (place-fits _ c.place-y2.result p2) c.whole-w2.ensures).is in
    let p3 = c.place-y3.ensures ∙ ap place_of c.crossings-4.ensures in
    let i3 = (cast _ c.whole-w3.result (place-fits _ c.place-y3.result p3) c.whole-w3.ensures).is in
    placed-next _ _ _ _ _ _ _ _ _ (omega arith) p3 c.whole-w3.ensures i3 (placed-next _ _ _ _ _ _ _ _ _ (omega arith) p2 c.whole-w2.ensures i2 (placed-next _ _ _ _ _ _ _ _ _ (omega arith) p1 c.whole-w1.ensures i1 (placed-next _ _ _ _ _ _ _ _ _ (omega arith) p0 c.whole-w0.ensures i0 c.requires.1 (omega (arith, a, h)) (omega (arith, b, h))) (simp length-set (omega (arith, a, h))) (simp length-set (omega (arith, b, h)))) (simp length-set (omega (arith, a, h))) (simp length-set (omega (arith, b, h)))) (simp length-set (omega (arith, a, h))) (simp length-set (omega (arith, b, h)))
