-- Laws of writing a number's digits. Assumes nothing.
use Prim.Native.Nat.{ℕ, zero, suc, ◌+◌, ◌-◌, ◌/◌, ◌%◌, ◌<◌, ◌≤◌}
use mathlib.Core.Path.{◌≡◌, refl, sym, ap, ◌∙◌}
use mathlib.Core.Bool.{true, false, true≢false}
use mathlib.Core.List.{List, [], ◌∷◌, ◌++◌}
use native.Mathlib.Nat.{add-zero}
use native.Mathlib.Numerals.{add-one}
use native.Mathlib.Omega.{arith}
use lib.IntN.{ℤ, pos, negsuc, nat_abs}
use lib.Signed.{lt_z}
use lib.ListN.{length, set, length-append}
use lib.Seq.{sets, set_comm}
use borrow.Author.Tests.{ltb-true, lt-ltb, le-ltb, lt-leb, le-leb}
use Rattle.lines.specs.Print.{glyph_of, last_digits, places_in, digits_of, signed_digits, put}

-- the last of a run may be stored first
pub last-first : (l : List ℕ) (at : ℕ) (xs : List ℕ) (y : ℕ) → sets l at (xs ++ (y ∷ [])) ≡ sets (set l (at + length xs) y) at xs
last-first l at [] y = rw (add-zero at) refl
last-first l at (x ∷ xs) y =
    let q : suc at + length xs ≡ at + suc (length xs) = omega arith in
    let n : (at ≡ at + suc (length xs) → ⊥) = λ e. omega arith in
    last-first (set l at x) (suc at) xs y ∙ rw q (ap (λ s. sets s (suc at) xs) (set_comm l at (at + suc (length xs)) x y n))

pub length_digits : (base k n : ℕ) → length (last_digits base k n) ≡ k
unfolding last_digits
length_digits base zero n = refl
length_digits base (suc k) n = length-append (last_digits base k (n / base)) (glyph_of (n % base) ∷ []) ∙ (let e = length_digits base k (n / base) in let q : length (last_digits base k (n / base)) + 1 ≡ suc k = omega arith in q)

-- one digit more, where i are left
pub digit-stored : (l : List ℕ) (at base i n g : ℕ) → 0 < i → g ≡ glyph_of (n % base) → sets l at (last_digits base i n) ≡ sets (set l (at + (i - 1)) g) at (last_digits base (i - 1) (n / base))
unfolding last_digits
digit-stored l at base zero n g h e = absurd (omega arith)
digit-stored l at base (suc i) n g h e =
    let q : suc i - 1 ≡ i = omega arith in
    rw q (last-first l at (last_digits base i (n / base)) (glyph_of (n % base)) ∙ ap (λ m. sets (set l (at + m) (glyph_of (n % base))) at (last_digits base i (n / base))) (length_digits base i (n / base))
    ∙ ap (λ x. sets (set l (at + i) x) at (last_digits base i (n / base))) (sym e))

pub none_left : (l : List ℕ) (at base i n : ℕ) → i ≡ 0 → sets l at (last_digits base i n) ≡ l
unfolding last_digits
none_left l at base i n h = rw h refl

-- k places are counted, and `rest` is left
module _ (k rest : ℕ) (h : k < 20) where
  left : 20 - k ≡ suc (20 - (k + 1))
  left = omega arith

  pub one_place : rest < 10 → places_in (20 - k) rest ≡ 1
  unfolding places_in
  one_place g = rw (left, lt-ltb rest 10 g) refl

  pub more-places : 10 ≤ rest → places_in (20 - k) rest ≡ 1 + places_in (20 - (k + 1)) (rest / 10)
  unfolding places_in
  more-places g = rw (left, le-ltb rest 10 g) refl

pub last-place : (k rest : ℕ) → 20 ≤ k → places_in (20 - k) rest ≡ 1
unfolding places_in
last-place k rest h = let z : 20 - k ≡ 0 = omega arith in rw z refl

-- written where there is room, and not where there is none
module _ (l ds : List ℕ) (at k : ℕ) (is : length ds ≡ k) where
  pub no_room : length l < at + k → record { at = at; text = l } ≡ put l at ds
  unfolding put
  no_room h = rw (is, lt-leb (at + k) (length l) h) refl

  pub room : at + k ≤ length l → record { at = at + k; text = sets l at ds } ≡ put l at ds
  unfolding put
  room h = rw (is, le-leb (at + k) (length l) h) refl

  pub filled : at + k ≤ length l → {t : List ℕ} → t ≡ sets l at ds → record { at = at + k; text = t } ≡ put l at ds
  filled h e = rw e (room h)

-- `-` and k digits
module _ (l ds : List ℕ) (at k : ℕ) (is : length ds ≡ k) where
  pub sign-no-room : length l < at + (k + 1) → record { at = at; text = l } ≡ put l at (45 ∷ ds)
  sign-no-room h = no_room l (45 ∷ ds) at (k + 1) (let q : suc (length ds) ≡ k + 1 = omega arith in q) h

  -- any byte, and k digits
  pub byte-filled : (b : ℕ) → at + (k + 1) ≤ length l → {t : List ℕ} → t ≡ sets (set l at b) (at + 1) ds → record { at = at + 1 + k; text = t } ≡ put l at (b ∷ ds)
  byte-filled b h e =
      let q : at + 1 + k ≡ at + (k + 1) = omega arith in
      rw q (filled l (b ∷ ds) at (k + 1) (let q : suc (length ds) ≡ k + 1 = omega arith in q) h (e ∙ ap (λ m. sets (set l at b) m ds) (add-one at)))

  pub sign-filled : at + (k + 1) ≤ length l → {t : List ℕ} → t ≡ sets (set l at 45) (at + 1) ds → record { at = at + 1 + k; text = t } ≡ put l at (45 ∷ ds)
  sign-filled h e = byte-filled 45 h e

-- a signed number's digits are those of its size
pub digits_above : (n : ℤ) → lt_z n (pos 0) ≡ false → digits_of (nat_abs n) ≡ signed_digits n
unfolding signed_digits
digits_above (pos k) h = refl
digits_above (negsuc k) h = absurd (true≢false h)

pub digits-below : (n : ℤ) → lt_z n (pos 0) ≡ true → 45 ∷ digits_of (nat_abs n) ≡ signed_digits n
unfolding signed_digits
digits-below (pos k) h = let q = ltb-true k 0 h in absurd (omega arith)
digits-below (negsuc k) h = ap (λ m. 45 ∷ digits_of m) (sym (add-one k))
