-- The places of taps that are kept are those of every four parts that test as the last. Assumes nothing.
use mathlib.Core.Path.{◌≡◌, sym, subst}
use mathlib.Core.Bool.{true, false, true≢false}
use mathlib.Core.List.{List}
use Rattle.std.proofs.Common.{Option, None, Some}
use Prim.Native.Nat.{ℕ, ◌+◌, ◌*◌}
use lib.Dec.{T, eqb, eqb→eq}
use lib.Ieee.Fits.{and_l, round-fits, nan-fits, inf-fits}
use lib.Ieee.{Float, nan, inf, fin, binary32, up, down, eq, fits}
use Rattle.exact.specs.Narrow.{narrowed}
use Rattle.exact.specs.Value.{plus}
use Rattle.interp.specs.Position.{fraction}
use Rattle.lanes.specs.Four.{Part, Parts, Spot, Rows}
use Rattle.interp.specs.declared.sinc.SincSpan.{SincSpan}
use Rattle.lanes.specs.declared.four.Four.{Four}
use Rattle.lanes.specs.declared.four.Starts.{Starts}
use Rattle.segments.specs.declared.ahead.Next.{Next}
use Rattle.segments.specs.Ahead.{Singles, Placed, as_last, PlacedBy}
use Rattle.segments.proofs.Fours.{Begun}
use Rattle.segments.proofs.Kept.{one_way, alike-of}

-- ---- how far a position lies behind its frame is a single
narrowed-fits : (x : Float) → T (fits binary32 (narrowed x))
unfolding narrowed
narrowed-fits nan = nan-fits binary32
narrowed-fits (inf s) = inf-fits binary32 s
narrowed-fits (fin s m e) = round-fits binary32 s (m * up e) (down e)

single_of : (p f : Float) → f ≡ fraction p → T (fits binary32 f)
unfolding fraction
single_of p f e = rw e (narrowed-fits _)

pub all-singles : (half : ℕ) (x : Next) (n : Starts) (f : Four) → Begun half x n f → Singles f
all-singles half x n f b = record { x0 = single_of _ _ b.f0; x1 = single_of _ _ b.f1; x2 = single_of _ _ b.f2; x3 = single_of _ _ b.f3 }

-- ---- four parts that test as others are those
only_part : (x y : Float) → T (plus x) → T (plus y) → T (fits binary32 x) → T (fits binary32 y) → T (eq x y) → x ≡ y
unfolding eq
only_part nan y p q f g t = absurd p
only_part (inf s) y p q f g t = absurd p
only_part (fin true m e) y p q f g t = absurd p
only_part (fin false m e) nan p q f g t = absurd q
only_part (fin false m e) (inf s) p q f g t = absurd q
only_part (fin false m e) (fin true n d) p q f g t = absurd q
only_part (fin false m e) (fin false n d) p q f g t = one_way binary32 false m n e d (eqb→eq (m * up e * down d) (n * up d * down e) (and_l (eqb (m * up e * down d) (n * up d * down e)) _ t)) f g

pub placed : (span : SincSpan) (last : Four) (es : List ℕ) (ps : List Float) → Parts last → Singles last → Rows span last es ps (2 * span.half) → Placed span last es ps
placed span last es ps p s r f q z a k h = record {
  s0 = at f.x0 last.x0 (4 * k) q.f0 p.f0 z.x0 s.x0 a.x0 (r k h).s0;
  s1 = at f.x1 last.x1 (4 * k + 1) q.f1 p.f1 z.x1 s.x1 a.x1 (r k h).s1;
  s2 = at f.x2 last.x2 (4 * k + 2) q.f2 p.f2 z.x2 s.x2 a.x2 (r k h).s2;
  s3 = at f.x3 last.x3 (4 * k + 3) q.f3 p.f3 z.x3 s.x3 a.x3 (r k h).s3;
}
  where
    at : (x y : Float) (j : ℕ) → Part x → Part y → T (fits binary32 x) → T (fits binary32 y) → T (eq x y) → Spot span y es ps k j → Spot span x es ps k j
    at x y j c d g i t u = subst (λ (v : Float). Spot span v es ps k j) (sym (only_part x y c.0 d.0 g i t)) u

pub rows-of : (span : SincSpan) (last : Option Four) (f : Four) (es : List ℕ) (ps : List Float) → Parts f → Singles f → as_last f last ≡ true → PlacedBy span last es ps → Rows span f es ps (2 * span.half)
rows-of span None f es ps p s e h = absurd (true≢false (sym e))
rows-of span (Some g) f es ps p s e h = h f p s (alike-of f g e)
