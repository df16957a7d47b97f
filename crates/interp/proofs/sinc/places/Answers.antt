use Rattle.std.proofs.Common.{◌≡◌, ℕ, ◌+◌, ◌*◌, subst, arith}
use Rattle.interp.specs.Places.{Placed}
use Rattle.interp.proofs.Table.{placed-none, placed-fewer}
use Rattle.interp.proofs.sinc.places.Goals as goal

pub loop-j-init : goal.loop-j-init
loop-j-init c = placed-none _ _ _ _ 0

pub put_four-requires : goal.put_four-requires
put_four-requires c = (omega (arith, c.requires, c.loop-j-test.true), c.loop-j.invariant)

pub loop-j-preserved : goal.loop-j-preserved
loop-j-preserved c =
    let z : 4 * c.loop-j.j + 4 ≡ 4 * (c.loop-j.j + 1) = omega arith in
    subst (λ (n : ℕ). Placed c.args.span c.args.f c.put_four.new.entries c.put_four.new.parts n) z c.put_four.ensures

pub returns : goal.returns
returns c = placed-fewer _ _ _ _ _ _ (omega (arith, c.loop-j-test.false)) c.loop-j.invariant
