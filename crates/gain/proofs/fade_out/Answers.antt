use Rattle.gain.specs.Gain.{faded_out}
use Rattle.gain.proofs.fade_out.Goals as goal
use Rattle.gain.proofs.fade_out.Goals.{else-len-via-then-len+else-v-xf, else-len-via-else-len}

pub returns-then-pos : goal.returns-then-pos
unfolding faded_out
returns-then-pos c = rw (c.if-len.true, c.if-v-xf.true, c.if-pos.true)

pub returns-then-v-xf : goal.returns-then-v-xf
unfolding faded_out
returns-then-v-xf c = rw (c.if-len.true, c.if-v-xf.true, c.if-pos.false, c.fade_shape.ensures)

pub returns : goal.returns
unfolding faded_out
returns c = elim c.else-len.branch [ else-len-via-then-len+else-v-xf w ↦ rw (w.if-len.true, w.if-v-xf.false) | else-len-via-else-len w ↦ rw w.if-len.false ]
