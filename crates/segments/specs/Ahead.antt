-- Sinc frames read ahead: where they can be, and what is kept of them. Definitions only.
use Rattle.std.specs.Prelude.{◌≡◌, Bool, true, false, not, ◌&&◌, List, ℕ, ◌+◌, ◌*◌, ◌≤◌, ◌<◌, leb, ltb, eqb, T, Float, get_or, set, length, Option, None, Some}
use Rattle.std.specs.Float.{binary32, binary64}
use Rattle.std.specs.Float.Ieee.{eq, ne, lt, fits, of_bits, to_unsigned}
use Rattle.interp.specs.Position.{Position}
use Rattle.interp.specs.Read.{pair_at}
use Rattle.lanes.specs.Four.{Inside, Parts, Rows}
use Rattle.exact.specs.Order.{magnitude}
use Rattle.exact.specs.Single.{single, ◌⊖◌, ◌⊗◌, f1, f16}
use Rattle.interp.specs.declared.Interp.{Interp}
use Rattle.interp.specs.declared.Interp.TheVariants.{Linear, Hermite, Sinc}
use Rattle.interp.specs.declared.sinc.SincSpan.{SincSpan}
use Rattle.lanes.specs.declared.four.Four.{Four}
use Rattle.player.specs.declared.Cold.{Cold}
use Rattle.segments.specs.declared.ahead.Kept.{Kept}
use Rattle.segments.specs.declared.ahead.Next.{Next}
use Rattle.segments.specs.Source.{Sound}

-- two channels have the same frames
abbrev pub even_with : ℕ → Option (List Float) → Bool
even_with n None = true
even_with n (Some b) = eqb (length b) n

abbrev pub is_even : Sound → Bool
is_even s = even_with (length s.a) s.b

abbrev pub is_sinc : Interp → Bool
is_sinc Linear = false
is_sinc Hermite = false
is_sinc Sinc = true

-- a sample, a step that is not 1.0, and a kernel whose taps, but for the first and the last, are in the window
unfoldable pub is_suited : Cold → Sound → Bool
is_suited c s =
    not c.silent
    && (ne c.step (of_bits binary64 0x3ff0_0000_0000_0000) && (is_sinc c.interp && (leb 2 c.span.half && (is_even s && lt (magnitude ((single c.span.half ⊖ f1) ⊗ c.span.fc)) f16))))

-- the kernel is one that reads four frames at a time, and two channels have the same frames
pub record Suited (c : Cold) (s : Sound) : Type 0 where
  pub kind : c.interp ≡ Sinc
  pub inside : Inside c.span
  pub same : is_even s ≡ true

-- the kernel's taps at p, from half - 1 frames before its frame to half frames behind it, are frames of the sample
abbrev pub is_inner : Float → ℕ → ℕ → Bool
is_inner p half len = leb half (to_unsigned 64 p + 1) && ltb (to_unsigned 64 p + half) len

abbrev pub all_inner : Next → ℕ → ℕ → Bool
all_inner x half len = is_inner x.p0 half len && is_inner x.p1 half len && is_inner x.p2 half len && is_inner x.p3 half len

pub record Inner (p : Float) (half len : ℕ) : Type 0 where
  pub front : half ≤ to_unsigned 64 p + 1
  pub back : to_unsigned 64 p + half < len

pub record Positions (x : Next) : Type 0 where
  pub p0 : Position x.p0
  pub p1 : Position x.p1
  pub p2 : Position x.p2
  pub p3 : Position x.p3

pub record AllInner (x : Next) (half len : ℕ) : Type 0 where
  pub p0 : Inner x.p0 half len
  pub p1 : Inner x.p1 half len
  pub p2 : Inner x.p2 half len
  pub p3 : Inner x.p3 half len

-- What is kept is what the kernel reads at every position, as a double holds it, that tests as its own.
abbrev pub Reads : Cold → Sound → Kept → Type 0
Reads c s k = (p : Float) → Position p → T (fits binary64 p) → T (eq k.at p) → k.heard ≡ pair_at c.interp s.a s.b p s.table c.span

-- the first n places hold such frames
pub record AllRead (c : Cold) (s : Sound) (n : ℕ) (ks : List Kept) : Type 0 where
  pub many : length ks ≡ 64
  pub each : (i : ℕ) → i < n → (d : Kept) → Reads c s (get_or ks i d)

-- four frames more, from place `at` on
abbrev pub kept_from : ℕ → Next → Four → Four → List Kept → List Kept
kept_from at x l r ks =
    set (set (set (set ks at (record { at = x.p0; heard = record { l = l.x0; r = r.x0 } }))
    (at + 1) (record { at = x.p1; heard = record { l = l.x1; r = r.x1 } }))
    (at + 2) (record { at = x.p2; heard = record { l = l.x2; r = r.x2 } }))
    (at + 3) (record { at = x.p3; heard = record { l = l.x3; r = r.x3 } })

-- each of four tests as its other
abbrev pub are_alike : Four → Four → Bool
are_alike f g = eq f.x0 g.x0 && eq f.x1 g.x1 && eq f.x2 g.x2 && eq f.x3 g.x3

abbrev pub as_last : Four → Option Four → Bool
as_last f None = false
as_last f (Some g) = are_alike f g

pub record Alike (f g : Four) : Type 0 where
  pub x0 : T (eq f.x0 g.x0)
  pub x1 : T (eq f.x1 g.x1)
  pub x2 : T (eq f.x2 g.x2)
  pub x3 : T (eq f.x3 g.x3)

-- as a single holds them
pub record Singles (f : Four) : Type 0 where
  pub x0 : T (fits binary32 f.x0)
  pub x1 : T (fits binary32 f.x1)
  pub x2 : T (fits binary32 f.x2)
  pub x3 : T (fits binary32 f.x3)

-- The lists have the places of the taps of every four parts that test as the last, if there is one.
abbrev pub Placed : SincSpan → Four → List ℕ → List Float → Type 0
Placed span last es ps = (f : Four) → Parts f → Singles f → Alike f last → Rows span f es ps (2 * span.half)

abbrev pub PlacedBy : SincSpan → Option Four → List ℕ → List Float → Type 0
PlacedBy span None es ps = Unit {0}
PlacedBy span (Some last) es ps = Placed span last es ps
