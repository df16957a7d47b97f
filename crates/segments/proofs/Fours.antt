-- Four frames read at a time are the kernel's, each at its own position. Assumes nothing.
use mathlib.Core.Path.{◌≡◌, refl, ap}
use Rattle.std.proofs.Common.{None, Some}
use mathlib.Core.List.{List}
use Prim.Native.Nat.{ℕ, ◌+◌, ◌*◌, ◌≤◌, ◌<◌}
use native.Mathlib.Omega.{arith}
use lib.Dec.{T}
use lib.ListN.{length}
use lib.Ieee.{Float, binary64, to_unsigned, fits}
use Rattle.exact.specs.Single.{f0}
use Rattle.interp.specs.Position.{Position, fraction}
use Rattle.interp.specs.Read.{read_at, kernel_at, pair_at}
use Rattle.interp.specs.Sinc.{sinc_at}
use Rattle.lanes.specs.Four.{Part, Parts, InFrames, place_from, sinc_four}
use Rattle.interp.specs.declared.Interp.TheVariants.{Sinc}
use Rattle.interp.specs.declared.sinc.SincSpan.{SincSpan}
use Rattle.lanes.specs.declared.four.Four.{Four}
use Rattle.lanes.specs.declared.four.Starts.{Starts}
use Rattle.player.specs.declared.Cold.{Cold}
use Rattle.segments.specs.Source.{Sound}
use Rattle.segments.specs.declared.ahead.Kept.{Kept}
use Rattle.segments.specs.declared.ahead.Next.{Next}
use Rattle.segments.specs.Ahead.{Inner, Positions, AllInner, AllRead, kept_from}
use Rattle.segments.proofs.Behind.{fraction-part}
use Rattle.segments.proofs.Kept.{Read, keeps}

-- what the four are read by: the frame of the first tap, and how far each lies behind its own
pub record Begun (half : ℕ) (x : Next) (n : Starts) (f : Four) : Type 0 where
  pub n0 : n.n0 + half ≡ to_unsigned 64 x.p0 + 1
  pub n1 : n.n1 + half ≡ to_unsigned 64 x.p1 + 1
  pub n2 : n.n2 + half ≡ to_unsigned 64 x.p2 + 1
  pub n3 : n.n3 + half ≡ to_unsigned 64 x.p3 + 1
  pub f0 : f.x0 ≡ fraction x.p0
  pub f1 : f.x1 ≡ fraction x.p1
  pub f2 : f.x2 ≡ fraction x.p2
  pub f3 : f.x3 ≡ fraction x.p3

-- an inner position is not in the first frame
later : (p : Float) (half len : ℕ) → 2 ≤ half → Inner p half len → 0 < to_unsigned 64 p
later p half len h i = omega (arith, i.front)

part_of : (p f : Float) (half len : ℕ) → 2 ≤ half → Position p → Inner p half len → f ≡ fraction p → Part f
part_of p f half len h k i e = rw e (fraction-part p k (later p half len h i))

module _ (half len : ℕ) (x : Next) (n : Starts) (f : Four) (b : Begun half x n f) (i : AllInner x half len) where
  pub all-parts : 2 ≤ half → Positions x → Parts f
  all-parts h k = record {
    f0 = part_of x.p0 f.x0 half len h k.p0 i.p0 b.f0;
    f1 = part_of x.p1 f.x1 half len h k.p1 i.p1 b.f1;
    f2 = part_of x.p2 f.x2 half len h k.p2 i.p2 b.f2;
    f3 = part_of x.p3 f.x3 half len h k.p3 i.p3 b.f3;
  }

  pub in-frames : (frames : List Float) → length frames ≡ len → InFrames n (2 * half) frames
  in-frames frames e = record {
    n0 = omega (arith, b.n0, i.p0.back);
    n1 = omega (arith, b.n1, i.p1.back);
    n2 = omega (arith, b.n2, i.p2.back);
    n3 = omega (arith, b.n3, i.p3.back);
  }

-- a lane is the kernel's frame
lane : (table frames : List Float) (span : SincSpan) (n : ℕ) (f p : Float) → n + span.half ≡ to_unsigned 64 p + 1 → f ≡ fraction p
    → sinc_at table frames span (place_from span n) f ≡ read_at Sinc frames p table span
unfolding read_at kernel_at
lane table frames span n f p h e = let z : n + 41 + span.half ≡ to_unsigned 64 p + 42 = omega arith in rw (z, e)

module _ (c : Cold) (s : Sound) (kind : c.interp ≡ Sinc) (len n : ℕ) (f p l : Float) (h : 2 ≤ c.span.half) (d : T (fits binary64 p)) (k : Position p) (begin : n + c.span.half ≡ to_unsigned 64 p + 1) (behind : f ≡ fraction p)
    (i : Inner p c.span.half len) (left : l ≡ sinc_at s.table s.a c.span (place_from c.span n) f) where
  both_lane : (b : List Float) (r : Float) → s.b ≡ Some b → r ≡ sinc_at s.table b c.span (place_from c.span n) f → Read c s p (record { l = l; r = r })
  unfolding pair_at
  both_lane b r e right = record {
    position = k;
    double = d;
    later = later p c.span.half len h i;
    pair = rw (kind, e, left, right, lane s.table s.a c.span n f p begin behind, lane s.table b c.span n f p begin behind);
  }

  mono-lane : s.b ≡ None → Read c s p (record { l = l; r = f0 })
  unfolding pair_at
  mono-lane e = record {
    position = k;
    double = d;
    later = later p c.span.half len h i;
    pair = rw (kind, e, left, lane s.table s.a c.span n f p begin behind);
  }

pub record Doubles (x : Next) : Type 0 where
  pub p0 : T (fits binary64 x.p0)
  pub p1 : T (fits binary64 x.p1)
  pub p2 : T (fits binary64 x.p2)
  pub p3 : T (fits binary64 x.p3)

pub record FourRead (c : Cold) (s : Sound) (x : Next) (l r : Four) : Type 0 where
  pub r0 : Read c s x.p0 (record { l = l.x0; r = r.x0 })
  pub r1 : Read c s x.p1 (record { l = l.x1; r = r.x1 })
  pub r2 : Read c s x.p2 (record { l = l.x2; r = r.x2 })
  pub r3 : Read c s x.p3 (record { l = l.x3; r = r.x3 })

abbrev pub zeros : Four
zeros = record { x0 = f0; x1 = f0; x2 = f0; x3 = f0 }

module _ (c : Cold) (s : Sound) (kind : c.interp ≡ Sinc) (len : ℕ) (x : Next) (n : Starts) (f l : Four) (h : 2 ≤ c.span.half) (d : Doubles x) (k : Positions x) (b : Begun c.span.half x n f) (i : AllInner x c.span.half len)
    (left : l ≡ sinc_four s.table s.a c.span n f) where
  pub both_read : (xs : List Float) (r : Four) → s.b ≡ Some xs → r ≡ sinc_four s.table xs c.span n f → FourRead c s x l r
  unfolding sinc_four
  both_read xs r e right = record {
    r0 = both_lane c s kind len n.n0 f.x0 x.p0 l.x0 h d.p0 k.p0 b.n0 b.f0 i.p0 (ap (λ (v : Four). v.x0) left) xs r.x0 e (ap (λ (v : Four). v.x0) right);
    r1 = both_lane c s kind len n.n1 f.x1 x.p1 l.x1 h d.p1 k.p1 b.n1 b.f1 i.p1 (ap (λ (v : Four). v.x1) left) xs r.x1 e (ap (λ (v : Four). v.x1) right);
    r2 = both_lane c s kind len n.n2 f.x2 x.p2 l.x2 h d.p2 k.p2 b.n2 b.f2 i.p2 (ap (λ (v : Four). v.x2) left) xs r.x2 e (ap (λ (v : Four). v.x2) right);
    r3 = both_lane c s kind len n.n3 f.x3 x.p3 l.x3 h d.p3 k.p3 b.n3 b.f3 i.p3 (ap (λ (v : Four). v.x3) left) xs r.x3 e (ap (λ (v : Four). v.x3) right);
  }

  pub mono-read : s.b ≡ None → FourRead c s x l zeros
  unfolding sinc_four
  mono-read e = record {
    r0 = mono-lane c s kind len n.n0 f.x0 x.p0 l.x0 h d.p0 k.p0 b.n0 b.f0 i.p0 (ap (λ (v : Four). v.x0) left) e;
    r1 = mono-lane c s kind len n.n1 f.x1 x.p1 l.x1 h d.p1 k.p1 b.n1 b.f1 i.p1 (ap (λ (v : Four). v.x1) left) e;
    r2 = mono-lane c s kind len n.n2 f.x2 x.p2 l.x2 h d.p2 k.p2 b.n2 b.f2 i.p2 (ap (λ (v : Four). v.x2) left) e;
    r3 = mono-lane c s kind len n.n3 f.x3 x.p3 l.x3 h d.p3 k.p3 b.n3 b.f3 i.p3 (ap (λ (v : Four). v.x3) left) e;
  }

-- four frames more
pub keeps-four : (c : Cold) (s : Sound) (ks ks' : List Kept) (at : ℕ) (x : Next) (l r : Four) → at + 4 ≤ 64 → FourRead c s x l r → ks' ≡ kept_from at x l r ks → AllRead c s at ks → AllRead c s (at + 4) ks'
keeps-four c s ks ks' at x l r b w same h =
    keeps c s _ ks' (at + 3) (at + 4) _ _ (omega arith) (omega arith) w.r3 same
    (keeps c s _ _ (at + 2) (at + 3) _ _ (omega arith) (omega arith) w.r2 refl
    (keeps c s _ _ (at + 1) (at + 2) _ _ (omega arith) (omega arith) w.r1 refl
    (keeps c s _ _ at (at + 1) _ _ (omega arith) refl w.r0 refl h)))
