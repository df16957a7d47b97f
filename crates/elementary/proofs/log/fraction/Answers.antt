use Rattle.std.proofs.Common.{◌≡◌, Bool, true, false, ◌||◌, ap, ◌∙◌, ap₂, le_of_lt}
use lib.Ieee.{of_bits}
use Rattle.elementary.specs.Logarithm.{guess_of}
use Rattle.elementary.proofs.Root.{past_room, tested}
use Rattle.elementary.proofs.log.fraction.Goals as goal
use Rattle.elementary.proofs.log.fraction.Goals.{then-m-v-via-then-m-v, then-m-v-via-else-m-v+then-v-m}

or_left : {a : Bool} (b : Bool) → a ≡ true → (a || b) ≡ true
or_left b e = ap (λ (x : Bool). x || b) e

or_right : {a b : Bool} → a ≡ false → b ≡ true → (a || b) ≡ true
or_right e f = ap₂ (λ (x y : Bool). x || y) e f

or-none : {a b : Bool} → a ≡ false → b ≡ false → (a || b) ≡ false
or-none e f = ap₂ (λ (x y : Bool). x || y) e f

pub power_at-v-requires : goal.power_at-v-requires
unfolding guess_of
power_at-v-requires c = rw c.guess-k.ensures (le_of_lt (past_room _))

pub returns-then-m-v : goal.returns-then-m-v
unfolding of_bits
returns-then-m-v c = let m = c.args.m in
    c.root.ensures
    ∙ (elim c.then-m-v.branch [
      | then-m-v-via-then-m-v w ↦ tested m c.power_at-v.result c.guess-k.result true c.guess-k.ensures c.power_at-v.ensures (or_left _ w.if-m-v.true)
      | then-m-v-via-else-m-v+then-v-m w ↦ tested m c.power_at-v.result c.guess-k.result true c.guess-k.ensures c.power_at-v.ensures (or_right w.if-m-v.false w.if-v-m.true)
    ])

pub returns : goal.returns
unfolding of_bits
returns c = tested c.args.m c.power_at-v.result c.guess-k.result false c.guess-k.ensures c.power_at-v.ensures (or-none c.if-m-v.false c.if-v-m.false)
