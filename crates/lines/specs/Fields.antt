-- A line's fields, and what each kind of field means. A line is the list of its bytes. Definitions only.
use Rattle.std.specs.Prelude.{ℕ, ◌+◌, ◌-◌, ◌*◌, Bool, cond, ◌&&◌, List, [], ◌∷◌, length, get_or, drop, ltb, leb, eqb, ℤ, pos, negsuc, neg_ℤ, Float, Option, Some, None, option_map, option_and_then}
use Rattle.std.specs.Char.{digit_value, is_digit}
use Rattle.std.specs.List.{slice_split, list_all}
use Rattle.program.specs.Region.{float_of}

-- a reading, and what is made of it where there is one
infixl 10 ◌>>=◌
abbrev pub ◌>>=◌ : {A B : Type 0} → Option A → (A → Option B) → Option B
o >>= f = option_and_then f o

-- the fields, parted by commas: one more than there are commas
abbrev pub fields_of : List ℕ → List (List ℕ)
fields_of l = slice_split (λ c. eqb c 44) l

-- field k, counted from 0; an empty one where there are fewer
unfoldable pub field_at : List ℕ → ℕ → List ℕ
field_at l k = get_or (fields_of l) k []

-- whether the line has n fields
unfoldable pub has_fields : ℕ → List ℕ → Bool
has_fields n l = eqb (length (fields_of l)) n

-- whether every byte is a digit of the base: 0-9, A-F and a-f are the digits 0 to 15
abbrev pub all_digits : ℕ → List ℕ → Bool
all_digits base f = list_all (λ c. is_digit c base) f

-- the number that the digits mean, after v
unfoldable pub value_from : ℕ → ℕ → List ℕ → ℕ
value_from base v [] = v
value_from base v (c ∷ cs) = value_from base (v * base + digit_value c) cs

-- digits of the base and nothing else, at least one, that mean at most max
unfoldable pub is_numeral : ℕ → ℕ → List ℕ → Bool
is_numeral base max f = ltb 0 (length f) && all_digits base f && leb (value_from base 0 f) max

-- what they mean
unfoldable pub numeral : ℕ → ℕ → List ℕ → Option ℕ
numeral base max f = cond (is_numeral base max f) (Some (value_from base 0 f)) None

-- a field that is one byte; `-` is none
unfoldable pub is_byte : ℕ → List ℕ → Bool
is_byte b f = eqb (length f) 1 && eqb (get_or f 0 0) b

abbrev pub is_none : List ℕ → Bool
is_none f = is_byte 45 f

-- a whole number of at most max, in decimal digits
abbrev pub number : ℕ → List ℕ → Option ℕ
number max f = numeral 10 max f

-- rates and frame counts: at most six digits
unfoldable pub six_digits : List ℕ → Option ℕ
six_digits f = cond (leb (length f) 6) (number 999999 f) None

-- a whole number of 32 bits, with `-` before its digits where it is below 0
unfoldable pub is_minus : List ℕ → Bool
is_minus f = eqb (get_or f 0 0) 45

unfoldable pub signed : List ℕ → Option ℤ
signed f = cond (is_minus f) (option_map (λ n. neg_ℤ (pos n)) (number 0x8000_0000 (drop 1 f))) (option_map pos (number 0x7fff_ffff f))

-- a word in hexadecimal digits
abbrev pub hex : List ℕ → Option ℕ
hex f = numeral 16 0xffff_ffff f

-- eight hexadecimal digits, the bits of a single; every not-a-number is the one
unfoldable pub single : List ℕ → Option Float
single f = cond (eqb (length f) 8) (option_map float_of (hex f)) None

-- no small letter
abbrev pub no_small : List ℕ → Bool
no_small f = list_all (λ c. ltb c 97) f

-- a single in the digits 0-9 and A-F alone
unfoldable pub capital_single : List ℕ → Option Float
capital_single f = cond (no_small f) (single f) None

-- the word of a signed number, in two's complement
unfoldable pub word_of : ℤ → ℕ
word_of (pos n) = n
word_of (negsuc n) = 0xffff_ffff - n
