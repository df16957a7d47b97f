-- A frame of a sample, inside it and outside. Assumes nothing.
use Rattle.std.proofs.Common.{◌≡◌, ℕ, zero, suc, ◌+◌, ◌-◌, ◌*◌, ◌%◌, ◌^◌, ◌<◌, ◌≤◌, Bool, true, false, not, T, leb, ltb, None, Option, Some, List, [], ◌∷◌, length, get_or, sym, refl, ◌∙◌, subst, arith, leb→le, le-leb}
use borrow.Author.Tests.{lt-leb, ltb-true, ltb-false}
use denote.Bor.{Bor}
use Rattle.std.specs.Option.{is_some, unwrap_or, option_copied, IfSome}
use lib.Dec.{nleb→lt}
use lib.ListN.{get_or-eq_default}
use lib.Ieee.{Float}
use Rattle.exact.specs.Single.{f0}
use Rattle.interp.specs.Points.{frame_at}

-- what is given for outside does not matter inside

pub get_d_any : {A : Type 0} (l : List A) (n : ℕ) (d d' : A) → n < length l → get_or l n d ≡ get_or l n d'
get_d_any [] n d d' h = absurd (never n h)
  where
    never : (k : ℕ) → k < 0 → ⊥
    never k h = omega arith
get_d_any (x ∷ l) zero d d' h = refl
get_d_any (x ∷ l) (suc n) d d' h = get_d_any l n d d' (omega arith)

module _ (frames : List Float) (n : ℕ) where
  pub before : n < 42 → f0 ≡ frame_at frames n
  unfolding frame_at
  before h = rw (lt-leb 42 n h)

  pub inside : (d : Float) → 42 ≤ n → n - 42 < length frames → get_or frames (n - 42) d ≡ frame_at frames n
  unfolding frame_at
  inside d h k = rw (le-leb 42 n h) (get_d_any frames (n - 42) d f0 k)

  pub behind : 42 ≤ n → length frames ≤ n - 42 → f0 ≡ frame_at frames n
  unfolding frame_at
  behind h k = rw (le-leb 42 n h) (sym (get_or-eq_default frames f0 k))

  -- by the place less the silence, where a place in the silence wraps round to a number that no sample reaches
  pub at-wrapped : (i : ℕ) (d : Float) → (i + 42) % 2 ^ 64 ≡ n → i < length frames → length frames * 4 < 2 ^ 63 → get_or frames i d ≡ frame_at frames n
  at-wrapped i d e h s =
      let q : i ≡ n - 42 = omega arith in
      let k : 42 ≤ n = omega arith in
      subst (λ (j : ℕ). get_or frames j d ≡ frame_at frames n) (sym q) (inside d k (omega arith))

  pub none-wrapped : (i : ℕ) → i < 2 ^ 64 → (i + 42) % 2 ^ 64 ≡ n → length frames ≤ i → f0 ≡ frame_at frames n
  none-wrapped i w e h = go (leb 42 n) (leb→le 42 n) (nleb→lt 42 n)
    where
      go : (b : Bool) → (T b → 42 ≤ n) → (T (not b) → n < 42) → f0 ≡ frame_at frames n
      go true f g = let k : 42 ≤ n = f tt in behind k (omega arith)
      go false f g = before (g tt)

  -- by what a slice gives for that place
  pub got : (r : Option (Bor Float)) → n < 2 ^ 64 → length frames * 4 < 2 ^ 63 → is_some r ≡ ltb ((n + 18446744073709551574) % 18446744073709551616) (length frames)
      → IfSome r (λ x. x.now ≡ get_or frames ((n + 18446744073709551574) % 18446744073709551616) x.now) → unwrap_or (option_copied r) f0 ≡ frame_at frames n
  got None a b e h = none-wrapped _ (omega arith) (omega arith) (ltb-false _ _ (sym e))
  got (Some x) a b e h = h ∙ at-wrapped _ x.now (omega arith) (ltb-true _ _ (sym e)) b
