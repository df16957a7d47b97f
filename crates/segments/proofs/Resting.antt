-- Plain frames: what one of them is, and what a run of them leaves. Assumes nothing.
use Rattle.std.proofs.Common.{None, Option, Some, IfSome, option_map, unwrap_or}
use Rattle.player.specs.declared.LoopRt.{LoopRt}
use Rattle.player.specs.declared.Fade.{Fade}
use Rattle.segments.specs.declared.segment.Turn.TheVariants.{Sounds}
use mathlib.Core.Path.{◌≡◌, refl, sym, ap, subst, ◌∙◌}
use mathlib.Core.Bool.{Bool, true, false, not, true≢false, ◌&&◌, ◌||◌, beq}
use mathlib.Core.List.{List}
use Prim.Native.Nat.{ℕ, zero, suc, ◌+◌, ◌-◌, ◌*◌, ◌^◌, ◌≤◌, ◌<◌}
use native.Mathlib.Nat.{add-zero, add-suc, mul-one, mul-pos, mul_right_comm, eq_of_mul-eq-mul_right, lt_irrefl}
use native.Mathlib.Numerals.{add-one}
use native.Mathlib.Omega.{arith}
use borrow.Author.Tests.{not-true, not-false}
use lib.Dec.{T, ltb, eqb, eqb→eq, le→leb, ltb→lt, nltb→le}
use lib.IntN.{pos}
use lib.Signed.{lt_z}
use lib.ListN.{length, get_or}
use lib.Ieee.Back.{whole_unique, unsigned_back}
use lib.Ieee.Exact.{HasValue}
use lib.Ieee.Fits.{down_pos, round-fits}
use lib.Ieee.Scale.{round_same}
use lib.Ieee.{Float, nan, inf, fin, binary64, up, down, round, sum, add, sub, le, lt, eq, ne, of_bits, of_int, to_unsigned, in_float, fits}
use Rattle.exact.specs.Single.{◌⊗◌, f0}
use Rattle.envelope.specs.declared.EgState.{EgState}
use Rattle.envelope.specs.declared.EgState.TheVariants.{Delay, Attack, Hold, Decay, Sustain, Release, Fadeout, Done}
use Rattle.envelope.specs.declared.Env.{Env}
use Rattle.envelope.specs.Envelope.{is_done, env_next, sustain_step, step_in, answer}
use Rattle.filter.specs.declared.FilterShape.{FilterShape}
use Rattle.filter.specs.Filter.{chained}
use Rattle.interp.specs.Position.{Position, first, double, floored, is_whole, looped}
use Rattle.interp.specs.Points.{frame_at}
use Rattle.exact.specs.declared.pair.Pair.{Pair}
use Rattle.interp.proofs.Difference.{differ}
use Rattle.interp.proofs.Floor.{whole-by-index}
use Rattle.interp.proofs.Frames.{inside}
use Rattle.interp.proofs.Looping.{double-value, le-values, stays, floor-below}
use Rattle.player.specs.declared.Hot.{Hot}
use Rattle.player.specs.declared.Cold.{Cold}
use Rattle.segments.specs.declared.segment.Frame.{Frame}
use Rattle.player.specs.Bounds.{LoopOk}
use Rattle.segments.specs.Source.{Sound, current_loop, place_in, at_end, is_unity, frame_of, crossfaded, with_fade, in_fade, no_sound, read_frame, at_pos}
use Rattle.segments.specs.Segment.{Run, frame_next, frame_after, ends_now, run_one, run_for, added, share}
use Rattle.segments.specs.Plain.{sustains, is_resting, is_steady, is_plain, is_silent, before_fade, plain_end, FadeSmall, Reaches, second_at, plain_share, added_run, run_from}
use Rattle.player.proofs.Within.{round-within}
use Rattle.segments.proofs.Reading.{heard}

-- ---- tests
both_true : (a b : Bool) → a && b ≡ true → (a ≡ true) × (b ≡ true)
both_true true b e = (refl, e)
both_true false b e = absurd (true≢false (sym e))

holds : (b : Bool) → b ≡ true → T b
holds true e = tt
holds false e = absurd (true≢false (sym e))

refute : (b : Bool) → (T b → ⊥) → b ≡ false
refute true f = absurd (f tt)
refute false f = refl

-- ---- the envelope
at_rest : (s : EgState) (e : Env) → sustains s && (not e.free_running && not (lt e.sustain e.value)) ≡ true → (step_in s e ≡ answer e) × (is_done s ≡ false)
unfolding sustain_step
at_rest Delay e h = absurd (true≢false (sym h))
at_rest Attack e h = absurd (true≢false (sym h))
at_rest Hold e h = absurd (true≢false (sym h))
at_rest Decay e h = absurd (true≢false (sym h))
at_rest Sustain e h =
    let p = both_true (not e.free_running) (not (lt e.sustain e.value)) h in
    (rw (not-true e.free_running p.0, not-true (lt e.sustain e.value) p.1), refl)
at_rest Release e h = absurd (true≢false (sym h))
at_rest Fadeout e h = absurd (true≢false (sym h))
at_rest Done e h = absurd (true≢false (sym h))

resting : (e : Env) → is_resting e ≡ true → (env_next e ≡ answer e) × (is_done e.state ≡ false)
unfolding is_resting env_next
resting e h = at_rest e.state e h

-- ---- whole numbers as positions
double-fits : (m : ℕ) → T (fits binary64 (double m))
unfolding of_int
double-fits m = round-fits binary64 false m 1

pub double-position : (m : ℕ) → m ≤ 8589934592 → Position (double m)
unfolding of_int
double-position m h = round-within m 1 (omega arith) (omega arith)

double-index : (m : ℕ) → m ≤ 8589934592 → to_unsigned 64 (double m) ≡ m
unfolding in_float
double-index m h = (unsigned_back binary64 64 m (le→leb m (2 ^ 53) (omega arith)) (omega arith)).1

nothing : eq (round binary64 false 0 1) first ≡ true
unfolding eq of_bits round
nothing = refl

double-whole : (m : ℕ) → m ≤ 8589934592 → is_whole (double m) ≡ true
unfolding is_whole
double-whole m h =
    let i = double-index m h in
    let z : sub binary64 (double m) (double m) ≡ round binary64 false (m - m * 1) 1 = differ binary64 (double m) (double m) m 1 m (omega arith) (double-value m (omega arith)) (double-value m (omega arith)) (omega arith) in
    sym (whole-by-index (double m) (double-fits m) (double-position m h))
    ∙ ap (λ (n : ℕ). eq (sub binary64 (double m) (double n)) first) i
    ∙ ap (λ (x : Float). eq x first) (z ∙ ap (λ (n : ℕ). round binary64 false n 1) (omega arith))
    ∙ nothing

pub double-before : (m n : ℕ) → m < n → n ≤ 2 ^ 53 → le (double n) (double m) ≡ false
double-before m n h l =
    refute (le (double n) (double m)) (λ (t : T (le (double n) (double m))). clash (le-values (double n) (double m) n 1 m 1 (double-value n l) (double-value m (omega arith)) t))
  where
    clash : n * 1 ≤ m * 1 → ⊥
    clash k = omega arith

-- 1.0
abbrev one : Float
one = of_bits binary64 0x3ff0_0000_0000_0000

-- a step of 1.0 from a whole number
step-one : (x s : Float) (m : ℕ) → HasValue x false m 1 → eq s one ≡ true → add binary64 x s ≡ round binary64 false (m + 1) 1
unfolding add sum eq of_bits
step-one nan s m v h = absurd v
step-one (inf t) s m v h = absurd v
step-one (fin true q e) s m v h = absurd (true≢false v.0)
step-one (fin false q e) nan m v h = absurd (true≢false (sym h))
step-one (fin false q e) (inf t) m v h = absurd (true≢false (sym h))
step-one (fin false q e) (fin true n d) m v h =
    let k = both_true (eqb (n * up d * 1) (1 * 1 * down d)) (eqb (n * up d * 1) 0) h in
    let a : n * up d * 1 ≡ 1 * 1 * down d = eqb→eq (n * up d * 1) (1 * 1 * down d) (holds _ k.0) in
    let b : n * up d * 1 ≡ 0 = eqb→eq (n * up d * 1) 0 (holds _ k.1) in
    let p : 0 < down d = down_pos d in
    absurd (clash (n * up d) (down d) a b p)
  where
    clash : (x y : ℕ) → x * 1 ≡ 1 * 1 * y → x * 1 ≡ 0 → 0 < y → ⊥
    clash x y a b p = omega arith
step-one (fin false q e) (fin false n d) m v h =
    let k = both_true (eqb (n * up d * 1) (1 * 1 * down d)) true h in
    let a : n * up d * 1 ≡ 1 * 1 * down d = eqb→eq (n * up d * 1) (1 * 1 * down d) (holds _ k.0) in
    let b : n * up d ≡ down d = omega arith in
    let c : q * up e ≡ m * down e = sym (mul-one (q * up e)) ∙ v.1 in
    round_same binary64 false (q * up e * down d + n * up d * down e) (down e * down d) (m + 1) 1 (mul-pos (down_pos e) (down_pos d)) (omega arith)
    (whole (q * up e) (n * up d) (down e) (down d) c b)
  where
    whole : (X Y E D : ℕ) → X ≡ m * E → Y ≡ D → (X * D + Y * E) * 1 ≡ (m + 1) * (E * D)
    whole X Y E D c b = rw (c, b) (omega arith)

pub double-next : (m : ℕ) (s : Float) → m ≤ 8589934592 → eq s one ≡ true → add binary64 (double m) s ≡ double (m + 1)
unfolding of_int
double-next m s h e = step-one (double m) s m (double-value m (omega arith)) e

-- a float that is equal to a whole number above 0 is that number
same_number : (x y : Float) (m : ℕ) → T (fits binary64 x) → T (fits binary64 y) → HasValue y false m 1 → 0 < m → eq x y ≡ true → x ≡ y
unfolding eq
same_number x nan m fx fy v h e = absurd v
same_number x (inf t) m fx fy v h e = absurd v
same_number x (fin true n g) m fx fy v h e = absurd (true≢false v.0)
same_number nan (fin false n g) m fx fy v h e = absurd (true≢false (sym e))
same_number (inf t) (fin false n g) m fx fy v h e = absurd (true≢false (sym e))
same_number (fin t q d) (fin false n g) m fx fy v h e =
    let k = both_true (eqb (q * up d * down g) (n * up g * down d)) (beq t false || eqb (q * up d * down g) 0) e in
    let a : q * up d * down g ≡ n * up g * down d = eqb→eq (q * up d * down g) (n * up g * down d) (holds _ k.0) in
    let b : n * up g ≡ m * down g = sym (mul-one (n * up g)) ∙ v.1 in
    let c : q * up d * down g ≡ m * down d * down g = a ∙ ap (λ (z : ℕ). z * down d) b ∙ mul_right_comm m (down g) (down d) in
    let w : q * up d ≡ m * down d = eq_of_mul-eq-mul_right (down g) (down_pos g) (q * up d) (m * down d) c in
    let s : t ≡ false = plus t (q * up d * down g) (m * down d * down g) c (mul-pos (mul-pos h (down_pos d)) (down_pos g)) k.1 in
    whole_unique binary64 (fin t q d) (fin false n g) false m fx fy (s, mul-one (q * up d) ∙ w) v
  where
    plus : (t : Bool) (a b : ℕ) → a ≡ b → 0 < b → beq t false || eqb a 0 ≡ true → t ≡ false
    plus false a b e p k = refl
    plus true a b e p k = absurd (lt_irrefl 0 (subst (λ (z : ℕ). 0 < z) (sym e ∙ eqb→eq a 0 (holds (eqb a 0) k)) p))

pub is-double : (p : Float) (m : ℕ) → T (fits binary64 p) → 0 < m → m ≤ 8589934592 → eq p (double m) ≡ true → p ≡ double m
is-double p m f z h e = same_number p (double m) m f (double-fits m) (double-value m (omega arith)) z e

-- ---- before the end of plain frames no loop turns back, no fade has begun and the sample has not ended
before-end : (end m : ℕ) (f : Option Fade) → m < before_fade end f → m < end
before-end end m None h = h
before-end end m (Some f) h = omega arith

in_place : (lp : Option LoopRt) (last m : ℕ) → LoopOk lp → m ≤ 8589934592 → m < plain_end lp last → place_in lp (double m) ≡ double m
unfolding place_in looped plain_end
in_place None last m ok far h = refl
in_place (Some l) last m ok far h =
    sym (stays (double m) m (l.end + 1) (double (l.end + 1 - l.start)) 8589934592 (double-position m far) (sym (double-index m far)) (before-end _ m l.fade h) (omega (arith, ok.1)))

not-ended : (lp : Option LoopRt) (last m : ℕ) → last < 4294967295 → m < plain_end lp last → at_end lp last (double m) ≡ false
unfolding at_end plain_end
not-ended None last m l h = double-before m last h (omega arith)
not-ended (Some r) last m l h = refl

no_second : (a b : Bool) → b ≡ false → a && b ≡ false
no_second true b e = e
no_second false b e = refl

unfaded : (c : Cold) (s : Sound) (lp : Option LoopRt) (last m : ℕ) (stored : Bool) (v : Pair Float) → FadeSmall lp → m ≤ 8589934592 → m < plain_end lp last → crossfaded c s lp stored (double m) v ≡ v
unfolding crossfaded plain_end in_fade
unfaded c s None last m stored v small far h = refl
unfaded c s (Some l) last m stored v small far h = go l.fade small h
  where
    go : (f : Option Fade) → IfSome f (λ g. g.start < 4294967296) → m < before_fade (l.end + 1) f → with_fade c s l f stored (double m) v ≡ v
    go None small h = refl
    go (Some f) small h =
        rw (no_second (le (double l.start) (floored (double m))) (le (double f.start) (floored (double m)))
        (floor-below f.start (double m) (double-position m far) (double-fits m) (omega arith) (double-before m f.start (omega arith) (omega arith))))

-- ---- one frame
pub record Plain (c : Cold) (h : Hot) (lp : Option LoopRt) (m : ℕ) : Type 0 where
  pub plain : is_plain c h ≡ true
  pub place : h.pos ≡ double m
  pub loop : lp ≡ current_loop h.env.state c.loop_mode c.lp
  pub ok : LoopOk lp
  pub small : FadeSmall lp
  pub last : c.last < 4294967295
  pub far : m ≤ 8589934592
  pub before : m < plain_end lp c.last

abbrev plain_frame : Cold → Sound → Hot → ℕ → Frame
plain_frame c s h m = record { hot = at_pos (double (m + 1)) h; value = h.env.value; heard = record { l = get_or s.a m f0; r = second_at s.b m } }

stored-channel : (xs : List Float) (m : ℕ) → m ≤ 8589934592 → m < length xs → get_or xs m f0 ≡ frame_at xs (to_unsigned 64 (double m) + 42)
stored-channel xs m far h =
    ap (λ (n : ℕ). get_or xs n f0) (omega arith) ∙ inside xs (m + 42) f0 (omega arith) (omega arith) ∙ ap (λ (n : ℕ). frame_at xs (n + 42)) (sym (double-index m far))

second-channel : (b : Option (List Float)) (m : ℕ) → m ≤ 8589934592 → IfSome b (λ xs. m < length xs) → second_at b m ≡ unwrap_or (option_map (λ xs. frame_at xs (to_unsigned 64 (double m) + 42)) b) f0
second-channel None m far h = refl
second-channel (Some xs) m far h = stored-channel xs m far h

pub within : (b : Option (List Float)) (k n : ℕ) → k < n → IfSome b (λ xs. n ≤ length xs) → IfSome b (λ xs. k < length xs)
within None k n l h = tt
within (Some xs) k n l h = omega arith

pub reaches : (a : List Float) (b : Option (List Float)) (m n : ℕ) → m ≤ n → Reaches a b n → Reaches a b m
reaches a b m n l r = (omega (arith, r.0), go b r.1)
  where
    go : (b : Option (List Float)) → IfSome b (λ xs. n ≤ length xs) → IfSome b (λ xs. m ≤ length xs)
    go None h = tt
    go (Some xs) h = omega arith

-- what a plain frame's tests say
pub record Tests (c : Cold) (h : Hot) : Type 0 where
  pub step : eq c.step one ≡ true
  pub sounds : c.silent ≡ false
  pub unfiltered : c.n_filters ≡ 0
  pub going : h.data_ended ≡ false
  pub begun : lt_z (pos 0) h.data_delay ≡ false
  pub rests : is_resting h.env ≡ true

tests : (c : Cold) (h : Hot) → is_plain c h ≡ true → Tests c h
unfolding is_plain is_steady
tests c h e =
    let r : Bool = is_resting h.env in
    let g : Bool = not (lt_z (pos 0) h.data_delay) in
    let f : Bool = not h.data_ended in
    let d : Bool = eqb c.n_filters 0 in
    let b : Bool = not c.silent in
    let e₁ = both_true (eq c.step one) (b && (f && (d && (g && r)))) e in
    let e₂ = both_true b (f && (d && (g && r))) e₁.1 in
    let e₃ = both_true f (d && (g && r)) e₂.1 in
    let e₄ = both_true d (g && r) e₃.1 in
    let e₅ = both_true g r e₄.1 in
    record {
      step = e₁.0;
      sounds = not-true c.silent e₂.0;
      unfiltered = eqb→eq c.n_filters 0 (holds d e₄.0);
      going = not-true h.data_ended e₃.0;
      begun = not-true (lt_z (pos 0) h.data_delay) e₅.0;
      rests = e₅.1;
    }

unity-at : (s : Float) (m : ℕ) → m ≤ 8589934592 → eq s one ≡ true → true ≡ is_unity s (double m)
unfolding is_unity
unity-at s m far e = rw (e, double-whole m far)

stored-pair : (c : Cold) (s : Sound) (m : ℕ) → m ≤ 8589934592 → m < length s.a → IfSome s.b (λ xs. m < length xs)
    → ◌≡◌ {A = Pair Float} (record { l = get_or s.a m f0; r = second_at s.b m }) (frame_of c.interp c.span s true (double m))
unfolding frame_of
stored-pair c s m far a b = rw (stored-channel s.a m far a, second-channel s.b m far b)

read_plain : (c : Cold) (s : Sound) (h : Hot) (lp : Option LoopRt) (m : ℕ) → Plain c h lp m → Tests c h → m < length s.a → IfSome s.b (λ xs. m < length xs)
    → read_frame c s h ≡ record { hot = at_pos (double (m + 1)) h; heard = record { l = get_or s.a m f0; r = second_at s.b m } }
read_plain c s h lp m p t a b =
    let v : Pair Float = record { l = get_or s.a m f0; r = second_at s.b m } in
    sym (heard c s h lp (double m) false true v v t.sounds t.going p.loop
    (sym (ap (place_in lp) p.place ∙ in_place lp c.last m p.ok p.far p.before))
    (sym (not-ended lp c.last m p.last p.before)) refl
    (unity-at c.step m p.far t.step)
    (stored-pair c s m p.far a b)
    (sym (unfaded c s lp c.last m true v p.small p.far p.before)))
    ∙ ap (λ (x : Float). record { hot = at_pos x h; heard = v }) (double-next m c.step p.far t.step)

one-frame : (c : Cold) (s : Sound) (h : Hot) (lp : Option LoopRt) (m : ℕ) → Plain c h lp m → m < length s.a → IfSome s.b (λ xs. m < length xs) → frame_next c s h ≡ Sounds (plain_frame c s h m)
unfolding frame_next frame_after ends_now
one-frame c s h lp m p a b =
    let t = tests c h p.plain in
    let e = resting h.env t.rests in
    rw (e.0, e.1, t.begun, read_plain c s h lp m p t a b, t.going)

-- ---- a run of frames
pub end-small : (lp : Option LoopRt) (last : ℕ) → LoopOk lp → last < 4294967295 → plain_end lp last ≤ 4294967295
unfolding plain_end
end-small None last ok l = omega arith
end-small (Some r) last ok l = lesser r.fade (r.end + 1) (omega (arith, ok.1))
  where
    lesser : (f : Option Fade) (y : ℕ) → y ≤ 4294967295 → before_fade y f ≤ 4294967295
    lesser None y h = h
    lesser (Some f) y h = omega arith

-- an unfiltered frame more
unfiltered-one : (c : Cold) (slots : List FilterShape) (s : Sound) (j : ℕ) (x : Run) (f : Frame) → c.n_filters ≡ 0 → x.done ≡ false → frame_next c s x.hot ≡ Sounds f
    → run_one c slots s j x
    ≡ record {
      hot = f.hot;
      states = x.states;
      left = added x.left j (share (c.gain ⊗ f.value) c.matrix.ll c.matrix.rl f.heard.l f.heard.r);
      right = added x.right j (share (c.gain ⊗ f.value) c.matrix.lr c.matrix.rr f.heard.l f.heard.r);
      done = false;
    }
unfolding run_one chained
unfiltered-one c slots s j x f z d e = rw (d, e, z)

-- the player i frames on
hot_at : Hot → ℕ → ℕ → Hot
hot_at h m zero = h
hot_at h m (suc i) = at_pos (double (m + suc i)) h

hot-at : (h : Hot) (m k : ℕ) → h.pos ≡ double m → hot_at h m k ≡ at_pos (double (m + k)) h
unfolding hot_at
hot-at h m zero e = ap (λ (x : Float). at_pos x h) (e ∙ ap double (sym (add-zero m)))
hot-at h m (suc k) e = refl

module _ (c : Cold) (slots : List FilterShape) (s : Sound) (h : Hot) (lp : Option LoopRt) (m n : ℕ) (plain : is_plain c h ≡ true) (place : h.pos ≡ double m) (loop : lp ≡ current_loop h.env.state c.loop_mode c.lp)
    (ok : LoopOk lp) (small : FadeSmall lp) (last : c.last < 4294967295) (end : m + n ≤ plain_end lp c.last) (left : m + n ≤ length s.a) (right : IfSome s.b (λ xs. m + n ≤ length xs)) where
  far : m + n ≤ 4294967295
  far = let e = end-small lp c.last ok last in omega arith

  plain_at : (i : ℕ) → i < n → Plain c (hot_at h m i) lp (m + i)
  unfolding hot_at is_plain is_steady
  plain_at zero k = record { plain = plain; place = place ∙ ap double (sym (add-zero m)); loop = loop; ok = ok; small = small; last = last; far = omega (arith, far); before = omega arith }
  plain_at (suc i) k = record { plain = plain; place = refl; loop = loop; ok = ok; small = small; last = last; far = omega (arith, far); before = omega arith }

  frame-at : (i : ℕ) → i < n → frame_next c s (hot_at h m i) ≡ Sounds (record { hot = hot_at h m (suc i); value = h.env.value; heard = record { l = get_or s.a (m + i) f0; r = second_at s.b (m + i) } })
  unfolding hot_at
  frame-at zero k =
      one-frame c s h lp (m + 0) (plain_at zero k) (omega arith) (within s.b (m + 0) (m + n) (omega arith) right)
      ∙ ap (λ (x : Float). Sounds (record { hot = at_pos x h; value = h.env.value; heard = record { l = get_or s.a (m + 0) f0; r = second_at s.b (m + 0) } })) (ap double (omega arith))
  frame-at (suc i) k =
      one-frame c s (hot_at h m (suc i)) lp (m + suc i) (plain_at (suc i) k) (omega arith) (within s.b (m + suc i) (m + n) (omega arith) right)
      ∙ ap (λ (x : Float). Sounds (record { hot = at_pos x h; value = h.env.value; heard = record { l = get_or s.a (m + suc i) f0; r = second_at s.b (m + suc i) } })) (ap double (omega arith))

  module _ (j : ℕ) (states outL outR : List Float) where
    abbrev from : Run
    from = record { hot = h; states = states; left = outL; right = outR; done = false }

    abbrev share_l : ℕ → Float
    share_l = plain_share (c.gain ⊗ h.env.value) c.matrix.ll c.matrix.rl s.a s.b m

    abbrev share_r : ℕ → Float
    share_r = plain_share (c.gain ⊗ h.env.value) c.matrix.lr c.matrix.rr s.a s.b m

    run-plain : (k : ℕ) → k ≤ n → run_from c slots s j k from ≡ record { hot = hot_at h m k; states = states; left = added_run share_l j k outL; right = added_run share_r j k outR; done = false }
    unfolding run_from added_run hot_at
    run-plain zero l = refl
    run-plain (suc k) l =
        let x : Run = record { hot = hot_at h m k; states = states; left = added_run share_l j k outL; right = added_run share_r j k outR; done = false } in
        let f : Frame = record { hot = hot_at h m (suc k); value = h.env.value; heard = record { l = get_or s.a (m + k) f0; r = second_at s.b (m + k) } } in
        ap (run_one c slots s (j + k)) (run-plain k (omega arith)) ∙ unfiltered-one c slots s (j + k) x f (tests c h plain).unfiltered refl (frame-at k (omega arith))

    pub ran : ◌≡◌ {A = Run} (record { hot = at_pos (double (m + n)) h; states = states; left = added_run share_l j n outL; right = added_run share_r j n outR; done = false }) (run_from c slots s j n from)
    ran =
        ap (λ (q : Hot). record { hot = q; states = states; left = added_run share_l j n outL; right = added_run share_r j n outR; done = false }) (sym (hot-at h m n place))
        ∙ sym (run-plain n (omega arith))

-- ---- runs one after the other
joined-runs : (c : Cold) (slots : List FilterShape) (s : Sound) (j k : ℕ) (x : Run) → run_from c slots s j k (run_for c slots s j x) ≡ run_for c slots s (j + k) x
unfolding run_from run_for
joined-runs c slots s j zero x = rw add-zero
joined-runs c slots s j (suc k) x = ap (run_one c slots s (j + k)) (joined-runs c slots s j k x) ∙ ap (λ (i : ℕ). run_for c slots s i x) (sym (add-suc j k))

-- ---- `!=`, told as `==`
pub differs : (x y : Float) → ne x y ≡ true → eq x y ≡ false
unfolding ne
differs x y e = not-true (eq x y) e

pub equals : (x y : Float) → ne x y ≡ false → eq x y ≡ true
unfolding ne
equals x y e = not-false (eq x y) e

-- ---- one stored frame more
pub one_more : (g x y : Float) (a : List Float) (b : Option (List Float)) (p j i : ℕ) (out₀ out out' : List Float) (l r v : Float)
    → out ≡ added_run (plain_share g x y a b p) j i out₀
    → out' ≡ added out (j + i) v
    → v ≡ share g x y l r
    → l ≡ get_or a (p + i) f0
    → r ≡ second_at b (p + i)
    → out' ≡ added_run (plain_share g x y a b p) j (i + 1) out₀
unfolding added_run
one_more g x y a b p j i out₀ out out' l r v e q d f h = rw (q, d, f, h, e, add-one)

-- ---- no frame
pub no_run : (c : Cold) (slots : List FilterShape) (s : Sound) (j : ℕ) (x : Run) → x ≡ run_from c slots s j (j - j) x
unfolding run_from
no_run c slots s j x = let z : 0 ≡ j - j = omega arith in ap (λ (n : ℕ). run_from c slots s j n x) z

-- ---- a run that goes on with plain frames, from frame j to frame n
pub carried : (c : Cold) (slots : List FilterShape) (s : Sound) (j n : ℕ) (x₀ x y : Run) → j ≤ n → x ≡ run_for c slots s j x₀ → y ≡ run_from c slots s j (n - j) x → y ≡ run_for c slots s n x₀
carried c slots s j n x₀ x y h e d =
    let z : j + (n - j) ≡ n = omega arith in
    d ∙ ap (run_from c slots s j (n - j)) e ∙ joined-runs c slots s j (n - j) x₀ ∙ ap (λ (i : ℕ). run_for c slots s i x₀) z

-- ---- plain frames and those of a chunk after them are some
pub forward : (j k n stop : ℕ) → j < n → j ≤ k → (k < n → k < stop) → k ≤ stop → k ≤ n → j < stop
forward j k n stop a b f d l = go (ltb k n) (ltb→lt k n) (nltb→le k n)
  where
    go : (t : Bool) → (T t → k < n) → (T (not t) → n ≤ k) → j < stop
    go true y z = let e = f (y tt) in omega arith
    go false y z = let e = z tt in omega arith

-- ---- silence
silent-tests : (c : Cold) (h : Hot) → is_silent c h ≡ true → (c.silent ≡ true) × (c.n_filters ≡ 0) × (lt_z (pos 0) h.data_delay ≡ false) × (is_resting h.env ≡ true)
unfolding is_silent is_steady
silent-tests c h e =
    let r : Bool = is_resting h.env in
    let g : Bool = not (lt_z (pos 0) h.data_delay) in
    let d : Bool = eqb c.n_filters 0 in
    let e₁ = both_true c.silent (d && (g && r)) e in
    let e₂ = both_true d (g && r) e₁.1 in
    let e₃ = both_true g r e₂.1 in
    (e₁.0, eqb→eq c.n_filters 0 (holds d e₂.0), not-true (lt_z (pos 0) h.data_delay) e₃.0, e₃.1)

-- what has ended before does not end again
no_end : (h : Hot) → ends_now h.data_ended h ≡ false
unfolding ends_now
no_end h = go h.data_ended (not h.offed)
  where
    go : (a b : Bool) → a && (not a && b) ≡ false
    go true b = refl
    go false b = refl

silent-frame : (c : Cold) (s : Sound) (h : Hot) → is_silent c h ≡ true → frame_next c s h ≡ Sounds (record { hot = h; value = h.env.value; heard = no_sound })
unfolding frame_next frame_after read_frame
silent-frame c s h e =
    let t = silent-tests c h e in
    let r = resting h.env t.3 in
    rw (r.0, r.1, t.2, t.0, no_end h)

module _ (c : Cold) (slots : List FilterShape) (s : Sound) (h : Hot) (j : ℕ) (states outL outR : List Float) (silent : is_silent c h ≡ true) where
  abbrev nothing_l : Float
  nothing_l = share (c.gain ⊗ h.env.value) c.matrix.ll c.matrix.rl f0 f0

  abbrev nothing_r : Float
  nothing_r = share (c.gain ⊗ h.env.value) c.matrix.lr c.matrix.rr f0 f0

  pub ran-silent : (k : ℕ) → ◌≡◌ {A = Run} (record { hot = h; states = states; left = added_run (λ (i : ℕ). nothing_l) j k outL; right = added_run (λ (i : ℕ). nothing_r) j k outR; done = false })
      (run_from c slots s j k (record { hot = h; states = states; left = outL; right = outR; done = false }))
  unfolding run_from added_run
  ran-silent zero = refl
  ran-silent (suc k) =
      sym (ap (run_one c slots s (j + k)) (sym (ran-silent k))
      ∙ unfiltered-one c slots s (j + k) (record { hot = h; states = states; left = added_run (λ (i : ℕ). nothing_l) j k outL; right = added_run (λ (i : ℕ). nothing_r) j k outR; done = false })
      (record { hot = h; value = h.env.value; heard = no_sound }) (silent-tests c h silent).1 refl (silent-frame c s h silent))

pub same_more : (v : Float) (j i : ℕ) (out₀ out out' : List Float) → out ≡ added_run (λ (n : ℕ). v) j i out₀ → out' ≡ added out (j + i) v → out' ≡ added_run (λ (n : ℕ). v) j (i + 1) out₀
unfolding added_run
same_more v j i out₀ out out' e s = rw (s, e, add-one)
