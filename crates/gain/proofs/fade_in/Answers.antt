use Rattle.gain.specs.Gain.{faded_in}
use Rattle.gain.proofs.fade_in.Goals as goal
use Rattle.gain.proofs.fade_in.Goals.{else-len-via-then-len+else-v-xf-2, else-len-via-else-len}

pub returns-then-v-xf : goal.returns-then-v-xf
unfolding faded_in
returns-then-v-xf c = simp c.if-v-xf.true

pub returns-then-v-xf-2 : goal.returns-then-v-xf-2
unfolding faded_in
returns-then-v-xf-2 c = simp (c.if-v-xf.false, c.if-len.true, c.if-v-xf-2.true, c.fade_shape.ensures)

pub returns : goal.returns
unfolding faded_in
returns c = elim c.else-len.branch [ else-len-via-then-len+else-v-xf-2 w ↦ rw (c.if-v-xf.false, w.if-len.true, w.if-v-xf-2.false) | else-len-via-else-len w ↦ rw (c.if-v-xf.false, w.if-len.false) ]
