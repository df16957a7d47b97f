-- Laws of reading a numeral from the left. Assumes nothing.
use Prim.Native.Nat.{ℕ, ◌+◌, ◌*◌, ◌<◌, ◌≤◌}
use mathlib.Core.Path.{◌≡◌, refl, sym, ap, ◌∙◌}
use mathlib.Core.Bool.{Bool, true, false, ◌&&◌}
use mathlib.Core.List.{List, [], ◌∷◌}
use native.Mathlib.Nat.{le_trans, le-mul_of_pos_right}
use native.Mathlib.Numerals.{add-one}
use native.Mathlib.Omega.{arith}
use lib.Dec.{ltb}
use lib.ListN.{length, get_or, drop, drop_of_length-le}
use lib.Seq.{drop-cons}
use borrow.Author.Tests.{lt-ltb, le-ltb, lt-leb, le-leb}
use Rattle.std.specs.Prelude.{Some, None}
use Rattle.std.specs.Char.{digit_value}
use Rattle.lines.specs.Fields.{all_digits, value_from, is_numeral, numeral}

grows : (base v : ℕ) (l : List ℕ) → 0 < base → v ≤ value_from base v l
unfolding value_from
grows base v [] p = omega arith
grows base v (c ∷ cs) p = let m = le-mul_of_pos_right v p in le_trans (let q : v ≤ v * base + digit_value c = omega (arith, m) in q) (grows base (v * base + digit_value c) cs p)

not-read : (base max : ℕ) (f : List ℕ) → is_numeral base max f ≡ false → None ≡ numeral base max f
unfolding numeral
not-read base max f e = rw e refl

and_false : (t : Bool) → (t && false) ≡ false
and_false true = refl
and_false false = refl

-- the first i bytes of f are digits that mean v
pub record Reading (base max : ℕ) (f : List ℕ) (v i : ℕ) : Type 0 where
  pub some : 0 < length f
  pub inside : i ≤ length f
  pub small : v ≤ max
  pub value : value_from base 0 f ≡ value_from base v (drop i f)
  pub digits : all_digits base f ≡ all_digits base (drop i f)

module _ (base max : ℕ) (f : List ℕ) where
  pub empty : length f ≡ 0 → None ≡ numeral base max f
  unfolding is_numeral
  empty e = not-read base max f (rw (le-ltb 0 (length f) (omega arith)) refl)

  module _ (v i : ℕ) (r : Reading base max f v i) where
    pub ends : length f ≤ i → Some v ≡ numeral base max f
    unfolding numeral is_numeral value_from
    ends h =
        let z = drop_of_length-le f h in
        let e : value_from base 0 f ≡ v = r.value ∙ ap (value_from base v) z in
        let d : all_digits base f ≡ true = r.digits ∙ ap (all_digits base) z in
        rw (lt-ltb 0 (length f) r.some, d, e, le-leb v max r.small) refl

    module _ (h : i < length f) (d : ℕ) (is : d ≡ digit_value (get_or f i 0)) where
      here : drop i f ≡ get_or f i 0 ∷ drop (i + 1) f
      here = rw (add-one, drop-cons f i 0)

      value-here : value_from base 0 f ≡ value_from base (v * base + d) (drop (i + 1) f)
      unfolding value_from
      value-here = r.value ∙ ap (value_from base v) here ∙ ap (λ x. value_from base (v * base + x) (drop (i + 1) f)) (sym is)

      digits-here : all_digits base f ≡ (ltb d base && all_digits base (drop (i + 1) f))
      digits-here = r.digits ∙ ap (all_digits base) here ∙ ap (λ x. ltb x base && all_digits base (drop (i + 1) f)) (sym is)

      pub no_digit : base ≤ d → None ≡ numeral base max f
      unfolding is_numeral
      no_digit g = not-read base max f (rw (lt-ltb 0 (length f) r.some, digits-here, le-ltb d base g) refl)

      pub large : 0 < base → max < v * base + d → None ≡ numeral base max f
      unfolding is_numeral
      large p g =
          let w = grows base (v * base + d) (drop (i + 1) f) p in
          let x = value-here in
          not-read base max f (rw (lt-ltb 0 (length f) r.some, lt-leb (value_from base 0 f) max (omega arith)) (and_false (all_digits base f)))

      pub next : d < base → v * base + d ≤ max → Reading base max f (v * base + d) (i + 1)
      next g m = record {
        some = r.some;
        inside = omega arith;
        small = m;
        value = value-here;
        digits = digits-here ∙ ap (λ t. t && all_digits base (drop (i + 1) f)) (lt-ltb d base g);
      }
