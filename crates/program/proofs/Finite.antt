-- Finite singles by their bits, and keys by their words. Assumes nothing.
use Rattle.std.proofs.Common.{◌≡◌, ℕ, zero, suc, ◌+◌, ◌/◌, ◌%◌, ◌<◌, Bool, true, false, not, ◌&&◌, cond, List, [], ◌∷◌, map, max, fold, refl, sym, ap, ◌∙◌, arith}
use Rattle.std.specs.List.{list_all}
use Rattle.std.specs.Float.{float_is_finite}
use lib.Dec.{ltb, leb, eqb}
use lib.Ieee.{Float, binary32, of_bits, of_fields, odd, inf, nan}
use borrow.Author.Tests.{lt-ltb, eq-eqb, ne_eqb, ltb-true, ltb-false, le-ltb, le-leb, lt-leb}
use Rattle.program.specs.Region.{byte_of, float_of}

odd-finite : (d : ℕ) (s : Bool) (q k l : ℕ) → float_is_finite (odd d s q k l) ≡ true
unfolding odd float_is_finite
odd-finite d s zero k l = refl
odd-finite d s (suc q) k l = refl

by_field : (a b s : Bool) (x : Float) → float_is_finite x ≡ true → float_is_finite (cond a (cond b (inf s) nan) x) ≡ not a
unfolding float_is_finite
by_field true true s x e = refl
by_field true false s x e = refl
by_field false b s x e = e

fields-finite : (s : Bool) (x t : ℕ) → float_is_finite (of_fields binary32 s x t) ≡ not (eqb x 255)
unfolding of_fields
fields-finite s zero t = odd-finite 24 s t 0 149
fields-finite s (suc x) t = by_field (eqb (suc x) 255) (eqb t 0) s _ (odd-finite 24 s (8388608 + t) x 149)

field_below : (m : ℕ) → m < 0x8000_0000 → not (eqb (m / 8388608) 255) ≡ ltb m 0x7f80_0000
field_below m h = by-case (ltb m 0x7f80_0000) refl where
  by-case : (t : Bool) → ltb m 0x7f80_0000 ≡ t → not (eqb (m / 8388608) 255) ≡ t
  by-case true e = let l = ltb-true m 0x7f80_0000 e in rw (ne_eqb (m / 8388608) 255 (λ q. omega arith))
  by-case false e = let l = ltb-false m 0x7f80_0000 e in let q : m / 8388608 ≡ 255 = omega arith in rw (eq-eqb (m / 8388608) 255 q)

-- a single is finite where its magnitude's bits are below the infinity's
pub finite-bits : (w : ℕ) → float_is_finite (of_bits binary32 w) ≡ ltb (w % 0x8000_0000) 0x7f80_0000
unfolding of_bits
finite-bits w = fields-finite (leb 0x8000_0000 w) (w % 0x8000_0000 / 8388608) (w % 8388608) ∙ field_below (w % 0x8000_0000) (omega arith)

-- a byte is at most 127 where its word is
pub key-word : (w : ℕ) → leb (byte_of w) 127 ≡ ltb w 128
key-word w = by-case (ltb w 128) refl where
  by-case : (t : Bool) → ltb w 128 ≡ t → leb (byte_of w) 127 ≡ t
  by-case true e = let l = ltb-true w 128 e in le-leb (byte_of w) 127 (omega arith)
  by-case false e = let l = ltb-false w 128 e in lt-leb (byte_of w) 127 (omega arith)

-- The largest of a list is below a limit where each is.
largest-below : (h : ℕ → ℕ) (l a : ℕ) (xs : List ℕ) → ltb (fold (λ b x. max b (h x)) a xs) l ≡ (ltb a l && list_all (λ x. ltb (h x) l) xs)
largest-below h l a [] = go (ltb a l) where
  go : (t : Bool) → t ≡ (t && true)
  go true = refl
  go false = refl
largest-below h l a (x ∷ xs) = largest-below h l (max a (h x)) xs ∙ go (ltb a l) (ltb (h x) l) refl refl where
  go : (s t : Bool) → ltb a l ≡ s → ltb (h x) l ≡ t → (ltb (max a (h x)) l && list_all (λ y. ltb (h y) l) xs) ≡ (s && (t && list_all (λ y. ltb (h y) l) xs))
  go true true p q = let e = ltb-true a l p in let f = ltb-true (h x) l q in ap (λ t. t && list_all (λ y. ltb (h y) l) xs) (lt-ltb (max a (h x)) l (omega arith))
  go true false p q = let f = ltb-false (h x) l q in ap (λ t. t && list_all (λ y. ltb (h y) l) xs) (le-ltb (max a (h x)) l (omega arith))
  go false t p q = let f = ltb-false a l p in ap (λ t. t && list_all (λ y. ltb (h y) l) xs) (le-ltb (max a (h x)) l (omega arith))

each-by : {B : Type 0} (q : B → Bool) (f : ℕ → B) (p : ℕ → Bool) → ((w : ℕ) → q (f w) ≡ p w) → (xs : List ℕ) → list_all p xs ≡ list_all q (map f xs)
each-by q f p by [] = refl
each-by q f p by (x ∷ xs) = ap (λ t. t && list_all p xs) (sym (by x)) ∙ ap (λ t. q (f x) && t) (each-by q f p by xs)

pub finite_words : (xs : List ℕ) → ltb (fold (λ a w. max a (w % 0x8000_0000)) 0 xs) 0x7f80_0000 ≡ list_all float_is_finite (map float_of xs)
finite_words xs = largest-below (λ w. w % 0x8000_0000) 0x7f80_0000 0 xs ∙ each-by float_is_finite float_of (λ w. ltb (w % 0x8000_0000) 0x7f80_0000) finite-bits xs

pub key_words : (xs : List ℕ) → ltb (fold (λ a w. max a w) 0 xs) 128 ≡ list_all (λ v. leb v 127) (map byte_of xs)
key_words xs = largest-below (λ w. w) 128 0 xs ∙ each-by (λ v. leb v 127) byte_of (λ w. ltb w 128) key-word xs
