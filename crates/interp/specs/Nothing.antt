-- Each half of a pair of zeros is one. Definitions only.
use Rattle.std.specs.Prelude.{◌≡◌, Bool, true, false, cond, Float}
use Rattle.exact.specs.Single.{f0}
use Rattle.exact.specs.declared.pair.Pair.{Pair}

pub either : (right : Bool) (x : Pair Float) → (x.l ≡ f0) × (x.r ≡ f0) → cond right x.r x.l ≡ f0
either true x e = e.1
either false x e = e.0
