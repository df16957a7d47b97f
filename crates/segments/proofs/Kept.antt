-- What is kept of frames read ahead is what the kernel reads, one frame more at a time. Assumes nothing.
use mathlib.Core.Path.{◌≡◌, refl, sym, ap, subst, ◌∙◌}
use mathlib.Core.Bool.{Bool, true, false, beq, not, true≢false, ◌||◌, ◌&&◌}
use mathlib.Core.List.{List}
use mathlib.Core.Logic.{◌≢◌}
use Prim.Native.Nat.{ℕ, zero, suc, ◌+◌, ◌-◌, ◌*◌, ◌/◌, ◌^◌, ◌<◌, ◌≤◌, min}
use native.Mathlib.Nat.{mul_right_comm, mul-pos, zero-div, lt_irrefl}
use native.Mathlib.Omega.{arith}
use lib.Dec.{T, eqb, leb, ltb, eqb→eq, leb→le, ltb→lt, T_not}
use lib.IntN.{ℤ}
use lib.ListN.{length, get_or, set, length-set}
use lib.Seq.{get_or-set_same, get_or-set_other}
use lib.Ieee.Bits.{of_bits-to_bits}
use lib.Ieee.Fits.{down_pos, and_l, and_r, eq→eqb}
use lib.Ieee.Nearest.{div_same}
use lib.Ieee.{Float, nan, inf, fin, Format, binary64, low, up, down, le, lt, eq, ne, of_bits, to_bits, to_unsigned, fits}
use Rattle.interp.specs.Position.{Position}
use Rattle.interp.specs.Read.{pair_at}
use Rattle.std.proofs.Common.{Option, None, Some, IfSome}
use Rattle.exact.specs.Order.{magnitude}
use Rattle.exact.specs.Single.{single, ◌⊖◌, ◌⊗◌, f1, f16}
use Rattle.interp.specs.declared.Interp.{Interp}
use Rattle.interp.specs.declared.Interp.TheVariants.{Linear, Hermite, Sinc}
use Rattle.lanes.specs.declared.four.Four.{Four}
use Rattle.player.specs.declared.Cold.{Cold}
use Rattle.exact.specs.declared.pair.Pair.{Pair}
use Rattle.segments.specs.declared.ahead.Kept.{Kept}
use Rattle.segments.specs.declared.ahead.Next.{Next}
use Rattle.segments.specs.Source.{Sound}
use Rattle.segments.specs.Ahead.{is_sinc, even_with, is_even, is_suited, Suited, Inner, AllInner, is_inner, all_inner, Reads, AllRead, Alike, are_alike}

-- what follows from a test follows where the test fails
pub never : {P : Type 0} → false ≡ true → P
never t = absurd (true≢false (sym t))

-- ---- a position that tests as one that is not 0 is that one
-- two fractions of one size and one sign, in the one way that a format writes it
pub one_way : (f : Format) (s : Bool) (m n : ℕ) (e d : ℤ) → m * up e * down d ≡ n * up d * down e → T (fits f (fin s m e)) → T (fits f (fin s n d)) → fin s m e ≡ fin s n d
unfolding to_bits
one_way f s m n e d h p q =
    let l = 2 ^ low f in
    let c : m * up e * l * down d ≡ n * up d * l * down e = mul_right_comm (m * up e) l (down d) ∙ ap (λ (z : ℕ). z * l) h ∙ mul_right_comm (n * up d) (down e) l in
    let z : m * up e * l / down e ≡ n * up d * l / down d = div_same (m * up e * l) (down e) (n * up d * l) (down d) (down_pos e) (down_pos d) c in
    let b : to_bits f (fin s m e) ≡ to_bits f (fin s n d) = rw z in
    sym (of_bits-to_bits f (fin s m e) p) ∙ ap (of_bits f) b ∙ of_bits-to_bits f (fin s n d) q

signed : (s : Bool) (z : ℕ) → T (beq false s || eqb z 0) → 0 < z → s ≡ false
signed false z t p = refl
signed true z t p = let q : z ≡ 0 = eqb→eq z 0 t in absurd (omega arith)

whole : (m : ℕ) (e : ℤ) → 0 < min (m * up e / down e) (2 ^ 64 - 1) → 0 < m * up e
whole m e h = go (m * up e) refl
  where
    go : (a : ℕ) → a ≡ m * up e → 0 < m * up e
    go zero q = let z : m * up e / down e ≡ 0 = ap (λ (k : ℕ). k / down e) (sym q) ∙ zero-div (down e) in absurd (omega arith)
    go (suc a) q = omega arith

pub only : (q p : Float) → T (fits binary64 q) → T (fits binary64 p) → 0 < to_unsigned 64 q → Position q → T (eq q p) → q ≡ p
unfolding to_unsigned eq of_bits le lt
only nan p f g h k t = absurd t
only (inf true) p f g h k t = absurd k.low
only (inf false) p f g h k t = absurd k.high
only (fin true m e) p f g h k t = absurd (lt_irrefl 0 h)
only (fin false m e) nan f g h k t = absurd t
only (fin false m e) (inf s) f g h k t = absurd t
only (fin false m e) (fin s n d) f g h k t =
    let c : m * up e * down d ≡ n * up d * down e = eqb→eq (m * up e * down d) (n * up d * down e) (and_l (eqb (m * up e * down d) (n * up d * down e)) _ t) in
    let z : s ≡ false = signed s (m * up e * down d) (and_r (eqb (m * up e * down d) (n * up d * down e)) _ t) (mul-pos (whole m e h) (down_pos d)) in
    one_way binary64 false m n e d c f (subst (λ (b : Bool). T (fits binary64 (fin b n d))) z g) ∙ ap (λ (b : Bool). fin b n d) (sym z)

-- ---- tests
pub two_true : (a b : Bool) → a && b ≡ true → (a ≡ true) × (b ≡ true)
two_true true b e = (refl, e)
two_true false b e = absurd (true≢false (sym e))

pub four_true : (a b c d : Bool) → a && b && c && d ≡ true → (a ≡ true) × (b ≡ true) × (c ≡ true) × (d ≡ true)
four_true true true true d e = (refl, refl, refl, e)
four_true true true false d e = absurd (true≢false (sym e))
four_true true false c d e = absurd (true≢false (sym e))
four_true false b c d e = absurd (true≢false (sym e))

pub truly : (b : Bool) → b ≡ true → T b
truly b e = subst T (sym e) tt

pub inner-of : (p : Float) (half len : ℕ) → is_inner p half len ≡ true → Inner p half len
inner-of p half len e =
    let q = two_true (leb half (to_unsigned 64 p + 1)) (ltb (to_unsigned 64 p + half) len) e in
    record { front = leb→le _ _ (truly _ q.0); back = ltb→lt _ _ (truly _ q.1) }

pub all-inner-of : (x : Next) (half len : ℕ) → all_inner x half len ≡ true → AllInner x half len
all-inner-of x half len e =
    let q = four_true (is_inner x.p0 half len) (is_inner x.p1 half len) (is_inner x.p2 half len) (is_inner x.p3 half len) e in
    record { p0 = inner-of _ _ _ q.0; p1 = inner-of _ _ _ q.1; p2 = inner-of _ _ _ q.2; p3 = inner-of _ _ _ q.3 }

pub alike-of : (f g : Four) → are_alike f g ≡ true → Alike f g
alike-of f g e =
    let q = four_true (eq f.x0 g.x0) (eq f.x1 g.x1) (eq f.x2 g.x2) (eq f.x3 g.x3) e in
    record { x0 = truly _ q.0; x1 = truly _ q.1; x2 = truly _ q.2; x3 = truly _ q.3 }

sinc-of : (k : Interp) → is_sinc k ≡ true → k ≡ Sinc
sinc-of Linear e = absurd (true≢false (sym e))
sinc-of Hermite e = absurd (true≢false (sym e))
sinc-of Sinc e = refl

pub suited-of : (c : Cold) (s : Sound) → c.span.half ≤ 40 → is_suited c s ≡ true → Suited c s
unfolding is_suited
suited-of c s h e =
    let r : Bool = lt (magnitude ((single c.span.half ⊖ f1) ⊗ c.span.fc)) f16 in
    let v : Bool = is_even s in
    let m : Bool = leb 2 c.span.half in
    let k : Bool = is_sinc c.interp in
    let n : Bool = ne c.step (of_bits binary64 0x3ff0_0000_0000_0000) in
    let e₁ = two_true (not c.silent) (n && (k && (m && (v && r)))) e in
    let e₂ = two_true n (k && (m && (v && r))) e₁.1 in
    let e₃ = two_true k (m && (v && r)) e₂.1 in
    let e₄ = two_true m (v && r) e₃.1 in
    let e₅ = two_true v r e₄.1 in
    record { kind = sinc-of c.interp e₃.0; inside = record { least = leb→le 2 c.span.half (truly _ e₄.0); most = h; reach = truly _ e₅.1 }; same = e₅.0 }

pub even-of : (n : ℕ) (xs : List Float) → even_with n (Some xs) ≡ true → length xs ≡ n
even-of n xs e = eqb→eq (length xs) n (truly _ e)

pub none-read : (c : Cold) (s : Sound) (ks : List Kept) → length ks ≡ 64 → AllRead c s 0 ks
none-read c s ks e = record { many = e; each = λ (i : ℕ) (l : i < 0) (d : Kept). absurd (lt-zero i l) }
  where
    lt-zero : (i : ℕ) → i < 0 → ⊥
    lt-zero i l = omega arith

-- ---- a frame more
module _ (c : Cold) (s : Sound) where
  -- the kernel's frame at a position that is not in the first frame
  pub record Read (p : Float) (v : Pair Float) : Type 0 where
    pub position : Position p
    pub double : T (fits binary64 p)
    pub later : 0 < to_unsigned 64 p
    pub pair : v ≡ pair_at c.interp s.a s.b p s.table c.span

  pub keeps : (ks ks' : List Kept) (k m : ℕ) (q : Float) (v : Pair Float) → k < 64 → m ≡ k + 1 → Read q v → ks' ≡ set ks k (record { at = q; heard = v })
      → AllRead c s k ks → AllRead c s m ks'
  keeps ks ks' k m q v b a r same h =
      rw same
      record {
        many = length-set ks k x ∙ h.many;
        each = λ (i : ℕ) (l : i < m) (d : Kept). at_place i l d (eqb i k) (eqb→eq i k) (T_not (eqb i k));
      }
    where
      x : Kept
      x = record { at = q; heard = v }

      own : Reads c s x
      own p w f t = let z : q ≡ p = only q p r.double f r.later r.position t in rw (← z) r.pair

      at_place : (i : ℕ) → i < m → (d : Kept) → (t : Bool) → (T t → i ≡ k) → (T (not t) → T (eqb i k) → ⊥) → Reads c s (get_or (set ks k x) i d)
      at_place i l d true y n =
          let e : i ≡ k = y tt in
          let z : get_or (set ks k x) k d ≡ x = get_or-set_same ks k x d (omega (arith, h.many)) in
          subst (λ (w : Kept). Reads c s w) (sym (ap (λ (j : ℕ). get_or (set ks k x) j d) e ∙ z)) own
      at_place i l d false y n =
          let e : i ≢ k = λ (z : i ≡ k). n tt (eq→eqb z) in
          subst (λ (w : Kept). Reads c s w) (sym (get_or-set_other ks k i x d e)) (h.each i (omega (arith, e, l, a)) d)

-- the first of a list that is kept, from any default
pub first-read : (c : Cold) (s : Sound) (n : ℕ) (ks : List Kept) (k : Kept) (i : ℕ) → AllRead c s n ks → i < n → ((d : Kept) → k ≡ get_or ks i d) → Reads c s k
first-read c s n ks k i h l e = subst (λ (w : Kept). Reads c s w) (sym (e k)) (h.each i l k)

pub known-reads : (c : Cold) (s : Sound) (n : ℕ) (ks : List Kept) (at : ℕ) (o : Option Kept) → AllRead c s n ks → IfSome o (λ k. (at < n) × ((d : Kept) → k ≡ get_or ks at d)) → IfSome o (Reads c s)
known-reads c s n ks at None h e = tt
known-reads c s n ks at (Some k) h e = first-read c s n ks k at h e.0 e.1

pub ready : (c : Cold) (s : Sound) (n n' : ℕ) (ks ks' : List Kept) → n' ≡ n → ks' ≡ ks → (n ≤ 64) × AllRead c s n ks → (n' ≤ 64) × AllRead c s n' ks'
ready c s n n' ks ks' e d h = rw (e, d) h
