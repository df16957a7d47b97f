-- From a kernel at a place to a channel at a position, and from two channels to a pair. Assumes nothing.
use Rattle.std.proofs.Common.{◌≡◌, ℕ, ◌+◌, List, None, Some}
use lib.Ieee.{Float, to_unsigned}
use Rattle.exact.specs.Single.{f0}
use Rattle.interp.specs.Position.{fraction}
use Rattle.interp.specs.Read.{kernel_at, read_at, pair_at}
use Rattle.interp.specs.declared.Interp.{Interp}
use Rattle.interp.specs.declared.sinc.SincSpan.{SincSpan}
use Rattle.exact.specs.declared.pair.Pair.{Pair}

module _ (table : List Float) (span : SincSpan) (p : Float) where
  -- n and f are the position's place, and k is the kernel's kind
  pub read_by : (kind k : Interp) (n : ℕ) (f : Float) → kind ≡ k → n ≡ to_unsigned 64 p + 42 → f ≡ fraction p → (frames : List Float) (r : Float)
      → r ≡ kernel_at k frames table span n f → r ≡ read_at kind frames p table span
  unfolding read_at
  read_by kind k n f a b c frames r e = rw (a, ← b, ← c) e

  pub both : (kind : Interp) (a b : List Float) (l r : Float) → l ≡ read_at kind a p table span → r ≡ read_at kind b p table span
      → ◌≡◌ {A = Pair Float} (record { l = l; r = r }) (pair_at kind a (Some b) p table span)
  unfolding pair_at
  both kind a b l r x y = rw (x, y)

  pub mono : (kind : Interp) (a : List Float) (l : Float) → l ≡ read_at kind a p table span
      → ◌≡◌ {A = Pair Float} (record { l = l; r = f0 }) (pair_at kind a None p table span)
  unfolding pair_at
  mono kind a l x = rw x
