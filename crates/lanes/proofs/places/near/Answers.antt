use mathlib.Core.Path.{sym, ap, ◌∙◌, subst}
use mathlib.Core.Bool.{not, true≢false}
use Prim.Native.Nat.{ℕ}
use lib.Dec.{T, eqb}
use lib.Ieee.{lt, Float}
use Rattle.exact.specs.Single.{f16}
use Rattle.interp.specs.Places.{place_of}
use Rattle.interp.proofs.Table.{place_inside, yes}
use Rattle.lanes.proofs.places.near.Goals.{then-not-this, else-not-this}
use Rattle.lanes.proofs.places.near.Goals as goal

pub returns-then-u : goal.returns-then-u
returns-then-u g c = elim c.if-not-this.branch [
  | then-not-this w ↦ place_inside c.args.v c.size-u.result (c.requires.1 (ap (λ (k : ℕ). not (eqb k 0)) w.if-not-this.true)) c.size-u.ensures
  | else-not-this w ↦ place_inside c.args.v c.size-u.result (subst (λ (u : Float). T (lt u f16)) c.size-u.ensures (yes (sym w.value-is ∙ c.if-u.true))) c.size-u.ensures
]

pub returns-else-u : goal.returns-else-u
unfolding place_of
returns-else-u g c = elim c.if-not-this.branch [
  | then-not-this w ↦ absurd (true≢false (sym (w.value-is ∙ ap (λ (k : ℕ). not (not (eqb k 0))) w.if-not-this.true) ∙ c.if-u.false))
  | else-not-this w ↦ rw (← c.size-u.ensures, sym w.value-is ∙ c.if-u.false)
]
