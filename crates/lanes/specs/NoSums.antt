-- Sums of which each number is 0. Definitions only.
use Rattle.std.specs.Prelude.{◌≡◌, Bool, true, false, cond, Float}
use Rattle.std.proofs.Common.{ap}
use Rattle.exact.specs.Single.{f0}
use Rattle.exact.specs.declared.pair.Pair.{Pair}
use Rattle.lanes.specs.declared.four.Four.{Four}
use Rattle.lanes.specs.declared.four.Sums.{Sums}
use Rattle.lanes.specs.Four.{Lanes, no_lanes}

abbrev IsNone : Four → Type 0
IsNone x = (x.x0 ≡ f0) × ((x.x1 ≡ f0) × ((x.x2 ≡ f0) × (x.x3 ≡ f0)))

zeros : (a b c d : Float) → a ≡ f0 → b ≡ f0 → c ≡ f0 → d ≡ f0 → ◌≡◌ {A = Four} (record { x0 = a; x1 = b; x2 = c; x3 = d }) (record { x0 = f0; x1 = f0; x2 = f0; x3 = f0 })
zeros a b c d p q r t = rw (p, q, r, t)

none_of : (x w : Four) → IsNone x → IsNone w → ◌≡◌ {A = Lanes} (record { acc = x; wsum = w }) no_lanes
none_of x w e f =
    let p : ◌≡◌ {A = Four} x (record { x0 = f0; x1 = f0; x2 = f0; x3 = f0 }) = zeros x.x0 x.x1 x.x2 x.x3 e.0 e.1.0 e.1.1.0 e.1.1.1 in
    let q : ◌≡◌ {A = Four} w (record { x0 = f0; x1 = f0; x2 = f0; x3 = f0 }) = zeros w.x0 w.x1 w.x2 w.x3 f.0 f.1.0 f.1.1.0 f.1.1.1 in
    rw (p, q)

pub no_sums_mono : (s : Sums Four) → IsNone s.acc × IsNone s.wsum → ◌≡◌ {A = Lanes} (record { acc = s.acc; wsum = s.wsum }) no_lanes
no_sums_mono s e = none_of s.acc s.wsum e.0 e.1

pub no_sums_pair : (right : Bool) (s : Sums (Pair Four)) → (IsNone s.acc.l × IsNone s.acc.r) × IsNone s.wsum → ◌≡◌ {A = Lanes} (record { acc = cond right s.acc.r s.acc.l; wsum = s.wsum }) no_lanes
no_sums_pair true s e = none_of s.acc.r s.wsum e.0.1 e.1
no_sums_pair false s e = none_of s.acc.l s.wsum e.0.0 e.1
