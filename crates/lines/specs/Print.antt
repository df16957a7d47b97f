-- Numbers as text, written at a place of a lent text. Definitions only.
use Rattle.std.specs.Prelude.{ℕ, zero, suc, ◌+◌, ◌/◌, ◌%◌, cond, List, [], ◌∷◌, ◌++◌, length, ltb, leb, ℤ, pos, negsuc}
use Rattle.std.proofs.lemmas.List.Edits.{sets}

-- 0-9 and A-F
unfoldable pub glyph_of : ℕ → ℕ
glyph_of d = cond (ltb d 10) (48 + d) (55 + d)

-- the last k digits of n in the base, the last one last
unfoldable pub last_digits : ℕ → ℕ → ℕ → List ℕ
last_digits base zero n = []
last_digits base (suc k) n = last_digits base k (n / base) ++ (glyph_of (n % base) ∷ [])

-- how many decimal digits n takes, where k + 1 are enough
unfoldable pub places_in : ℕ → ℕ → ℕ
places_in zero n = 1
places_in (suc k) n = cond (ltb n 10) 1 (1 + places_in k (n / 10))

-- the decimal digits of a number of 64 bits: at most 20
unfoldable pub digits_of : ℕ → List ℕ
digits_of n = last_digits 10 (places_in 19 n) n

-- with `-` before them where it is below 0
unfoldable pub signed_digits : ℤ → List ℕ
signed_digits (pos n) = digits_of n
signed_digits (negsuc n) = 45 ∷ digits_of (n + 1)

-- a text, and the place for what comes next
pub record Written : Type 0 where
  pub at : ℕ
  pub text : List ℕ

-- the bytes of ds from `at` on, where there is room for all of them; else nothing is written
unfoldable pub put : List ℕ → ℕ → List ℕ → Written
put text at ds = cond (leb (at + length ds) (length text)) (record { at = at + length ds; text = sets text at ds }) (record { at = at; text = text })
