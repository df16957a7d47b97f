-- A difference that is not negative: the fraction of the two values' difference, rounded. Assumes nothing.
use Rattle.std.proofs.Common.{◌≡◌, ℕ, ◌-◌, ◌*◌, ◌<◌, ◌≤◌, true, false, sym, ap, ◌∙◌, true≢false, mul_assoc, mul_comm, mul-pos, mul-one, mul_left_comm, arith, le-ltb}
use native.Mathlib.Nat.{mul-sub}
use lib.Ieee.Exact.{HasValue}
use lib.Ieee.Fits.{down_pos}
use lib.Ieee.Order.{transfer}
use lib.Ieee.Scale.{round_same}
use lib.Ieee.{Float, nan, inf, fin, Format, up, down, round, add, sub, neg, sum}

cross : (M N A D S E G : ℕ) → M * D ≡ A * E → N ≡ S * G → (M * G - N * E) * D ≡ (A - S * D) * (E * G)
cross M N A D S E G p q =
    let a : D * (M * G) ≡ E * G * A = simp (mul_assoc, mul_comm, mul_left_comm) (simp (mul_assoc, mul_comm, mul_left_comm) at (ap (λ (z : ℕ). z * G) p)) in
    let b : D * (N * E) ≡ E * G * (S * D) = ap (λ (z : ℕ). D * (z * E)) q ∙ simp (mul_assoc, mul_comm, mul_left_comm) in
    mul_comm (M * G - N * E) D
    ∙ mul-sub D (M * G) (N * E)
    ∙ ap (λ (z : ℕ). z - D * (N * E)) a
    ∙ ap (λ (z : ℕ). E * G * A - z) b
    ∙ sym (mul-sub (E * G) A (S * D))
    ∙ mul_comm (E * G) (A - S * D)

-- x less y, whose values are A / D and S
pub differ : (f : Format) (x y : Float) (A D S : ℕ) → 0 < D → HasValue x false A D → HasValue y false S 1 → S * D ≤ A → sub f x y ≡ round f false (A - S * D) D
unfolding sub neg add sum
differ f nan y A D S d p q h = absurd p
differ f (inf s) y A D S d p q h = absurd p
differ f (fin true m e) y A D S d p q h = absurd (true≢false p.0)
differ f (fin false m e) nan A D S d p q h = absurd q
differ f (fin false m e) (inf s) A D S d p q h = absurd q
differ f (fin false m e) (fin true n g) A D S d p q h = absurd (true≢false q.0)
differ f (fin false m e) (fin false n g) A D S d p q h =
    let o : n * up g * down e ≤ m * up e * down g = transfer (n * up g) (m * up e) (down g) (down e) S A 1 D (omega arith) d q.1 p.1 (omega arith) in
    let k : n * up g ≡ S * down g = sym (mul-one (n * up g)) ∙ q.1 in
    rw (le-ltb (m * up e * down g) (n * up g * down e) o)
    (round_same f false (m * up e * down g - n * up g * down e) (down e * down g) (A - S * D) D (mul-pos (down_pos e) (down_pos g)) d
    (cross (m * up e) (n * up g) A D S (down e) (down g) p.1 k))
