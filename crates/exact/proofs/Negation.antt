-- The sign goes through rounding. Assumes nothing.
use Rattle.std.proofs.Common.{◌≡◌, ℕ, zero, suc, ◌+◌, ◌*◌, ◌^◌, Bool, true, false, cond, ltb, sym, refl, ap, ◌∙◌, ap₂}
use lib.Ieee.{Float, inf, Format, prec, emax, low, odd, units, round, neg}
use lib.Ieee.Fits.{round_is}
use lib.Ieee.Order.{drop, kept}

pub neg-odd : (d : ℕ) (q k l : ℕ) → odd d true q k l ≡ neg (odd d false q k l)
unfolding odd neg
neg-odd d zero k l = refl
neg-odd d (suc q) k l = refl

pub neg-cond : (b : Bool) (x y : Float) → cond b (neg x) (neg y) ≡ neg (cond b x y)
neg-cond true x y = refl
neg-cond false x y = refl

pub inf-neg : inf true ≡ neg (inf false)
unfolding neg
inf-neg = refl

pub neg-units : (f : Format) (q k : ℕ) → units f true q k ≡ neg (units f false q k)
unfolding units
neg-units f q k =
    let b = ltb (q * 2 ^ k) (2 ^ (low f + suc (emax f))) in
    ap₂ (λ (x y : Float). cond b x y) (neg-odd (suc (prec f)) q k (low f)) inf-neg ∙ neg-cond b (odd (suc (prec f)) false q k (low f)) (inf false)

pub neg-round : (f : Format) (a c : ℕ) → round f true a c ≡ neg (round f false a c)
neg-round f a c = round_is f true a c ∙ neg-units f (kept (prec f) (a * 2 ^ low f) c) (drop (prec f) (a * 2 ^ low f) c) ∙ ap neg (sym (round_is f false a c))
