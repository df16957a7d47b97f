use Rattle.interp.proofs.Whole.{cast}
use Rattle.lanes.proofs.places.Places.put.Goals as goal

pub float_to_int-i0 : goal.float_to_int-i0
float_to_int-i0 c = (cast _ c.whole-w0.result c.requires.1.x0 c.whole-w0.ensures).signed

pub overflow_cast-i0 : goal.overflow_cast-i0
overflow_cast-i0 c = (cast _ c.whole-w0.result c.requires.1.x0 c.whole-w0.ensures).fits

pub float_to_int-i1 : goal.float_to_int-i1
float_to_int-i1 c = (cast _ c.whole-w1.result c.requires.1.x1 c.whole-w1.ensures).signed

pub overflow_cast-i1 : goal.overflow_cast-i1
overflow_cast-i1 c = (cast _ c.whole-w1.result c.requires.1.x1 c.whole-w1.ensures).fits

pub float_to_int-i2 : goal.float_to_int-i2
float_to_int-i2 c = (cast _ c.whole-w2.result c.requires.1.x2 c.whole-w2.ensures).signed

pub overflow_cast-i2 : goal.overflow_cast-i2
overflow_cast-i2 c = (cast _ c.whole-w2.result c.requires.1.x2 c.whole-w2.ensures).fits

pub float_to_int-i3 : goal.float_to_int-i3
float_to_int-i3 c = (cast _ c.whole-w3.result c.requires.1.x3 c.whole-w3.ensures).signed

pub overflow_cast-i3 : goal.overflow_cast-i3
overflow_cast-i3 c = (cast _ c.whole-w3.result c.requires.1.x3 c.whole-w3.ensures).fits

pub returns : goal.returns
returns c = let p = c.requires in
    let w0 = c.whole-w0 in
    let w1 = c.whole-w1 in
    let w2 = c.whole-w2 in
    let w3 = c.whole-w3 in
    (rw ((cast _ w0.result p.1.x0 w0.ensures).is, (cast _ w1.result p.1.x1 w1.ensures).is, (cast _ w2.result p.1.x2 w2.ensures).is, (cast _ w3.result p.1.x3 w3.ensures).is), rw (w0.ensures, w1.ensures, w2.ensures, w3.ensures))
