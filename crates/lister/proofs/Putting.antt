-- What a byte more and a single leave in the text that is collected. Assumes nothing.
use Rattle.std.proofs.Common.{◌≡◌, ℕ, ◌+◌, ◌≤◌, ◌<◌, List, [], ◌∷◌, length, set, refl, sym, ap, ◌∙◌, subst, arith, le-leb, length-set}
use Rattle.std.proofs.lemmas.Bool.{lt-leb}
use Rattle.std.proofs.lemmas.List.Edits.{sets}
use Rattle.lines.specs.Print.{Written, last_digits, put}
use Rattle.lines.proofs.Printing.{length_digits, filled, byte-filled}
use Rattle.lister.specs.Text.{place_for}

-- ---- the place of n bytes
pub behind : (n len : ℕ) → len + n ≤ 65536 → len ≡ place_for n len
unfolding place_for
behind n len h = rw (le-leb (len + n) 65536 h) refl

pub front : (n len : ℕ) → 65536 < len + n → 0 ≡ place_for n len
unfolding place_for
front n len h = rw (lt-leb (len + n) 65536 h) refl

-- ---- at the place `len` of the text `old`, where room was made
pub byte_put : (text old : List ℕ) (len at b : ℕ) → text ≡ old → len ≡ at → len + 1 ≤ 65536 → length old ≡ 65536
    → record { at = len + 1; text = set text len b } ≡ put old at (b ∷ [])
byte_put text old len at b t p h e = rw (t, sym p) (filled old (b ∷ []) len 1 refl (omega (arith, e, h)) refl)

-- the eight digits of w, written behind a comma
module _ (text old : List ℕ) (len at w : ℕ) (t : text ≡ old) (p : len ≡ at) (h : len + 9 ≤ 65536) (e : length old ≡ 65536) where
  abbrev ds : List ℕ
  ds = last_digits 16 8 w

  abbrev s : List ℕ
  s = set old len 44

  room : len + 1 + 8 ≤ length s
  room = subst (λ (n : ℕ). len + 1 + 8 ≤ n) (sym (length-set old len 44 ∙ e)) (omega (arith, h))

  behind-comma : put (set text len 44) (len + 1) ds ≡ record { at = len + 1 + 8; text = sets s (len + 1) ds }
  behind-comma = rw t (sym (filled s ds (len + 1) 8 (length_digits 16 8 w) room refl))

  pub digits-end : (k : ℕ) (new : List ℕ) → ◌≡◌ {A = Written} (record { at = k; text = new }) (put (set text len 44) (len + 1) ds) → k ≤ 65536
  digits-end k new q = let z : k ≡ len + 1 + 8 = ap (λ (x : Written). Written.at x) (q ∙ behind-comma) in omega (arith, h, z)

  pub single_put : (x : Written) → x ≡ put (set text len 44) (len + 1) ds → x ≡ put old at (44 ∷ ds)
  single_put x q =
      q ∙ behind-comma ∙ byte-filled old ds len 8 (length_digits 16 8 w) 44 (omega (arith, h, e)) refl
      ∙ ap (λ (n : ℕ). put old n (44 ∷ ds)) p
