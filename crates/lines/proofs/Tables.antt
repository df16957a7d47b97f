-- Laws of the rows of a line's fields: a row more, and no more. Assumes nothing.
use Prim.Native.Nat.{ℕ, ◌+◌, ◌<◌, ◌≤◌}
use mathlib.Core.Path.{◌≡◌, refl, sym, ap, ◌∙◌}
use mathlib.Core.Bool.{Bool, true, false, ◌&&◌}
use mathlib.Core.List.{List, ◌∷◌}
use native.Mathlib.Numerals.{add-one}
use lib.ListN.{length, get_or, drop, drop_of_length-le}
use lib.Seq.{drop-cons}
use Rattle.std.specs.Prelude.{Option, Some, None, is_some, option_map, unwrap_or, ℤ, pos}
use Rattle.lines.specs.declared.rows.Form.{Form}
use Rattle.lines.specs.declared.rows.Form.TheVariants.{Number, Single, Signed, Sample}
use Rattle.lines.specs.declared.rows.Row.{Row}
use Rattle.lines.specs.Fields.{field_at, signed, capital_single, word_of}
use Rattle.lines.specs.Desk as desk
use Rattle.lines.specs.Rows.{form_value, form_fits, form_word, row_fits, fields_fit, put_row, put_fields}

-- a field is read alone, and as a word
is_some-map : {A B : Type 0} (g : A → B) (o : Option A) → is_some (option_map g o) ≡ is_some o
is_some-map g None = refl
is_some-map g (Some x) = refl

pub fits : (form : Form) (f : List ℕ) → is_some (form_value form f) ≡ form_fits form f
fits (Number max) f = refl
fits Single f = is_some-map _ (capital_single f)
fits Signed f = is_some-map _ (signed f)
fits Sample f = is_some-map _ (desk.maybe f)

signed-word : (o : Option ℤ) → unwrap_or (option_map word_of o) 0 ≡ word_of (unwrap_or o (pos 0))
unfolding word_of
signed-word None = refl
signed-word (Some n) = refl

sample-word : (m : ℕ) (o : Option (Option ℕ)) → unwrap_or (option_map (λ n. unwrap_or n m) o) 0 ≡ unwrap_or (unwrap_or o (Some 0)) m
sample-word m None = refl
sample-word m (Some n) = refl

pub value : (form : Form) (f : List ℕ) → (form ≡ Single → ⊥) → unwrap_or (form_value form f) 0 ≡ form_word form f
value (Number max) f h = refl
value Single f h = absurd (h refl)
value Signed f h = signed-word (signed f)
value Sample f h = sample-word _ (desk.maybe f)

module _ (l : List ℕ) (rs : List Row) (i : ℕ) where
  module _ (h : i < length rs) (d : Row) (f : List ℕ) (is : f ≡ field_at l (i + 1)) where
    here : drop i rs ≡ get_or rs i d ∷ drop (i + 1) rs
    here = rw (add-one, drop-cons rs i d)

    fits-here : (t : Bool) → t ≡ row_fits l (get_or rs i d) f → fields_fit l (i + 1) (drop i rs) ≡ (t && fields_fit l (i + 1 + 1) (drop (i + 1) rs))
    unfolding fields_fit
    fits-here t e = ap (fields_fit l (i + 1)) here ∙ ap (λ x. x && fields_fit l (i + 1 + 1) (drop (i + 1) rs)) (sym (e ∙ ap (row_fits l (get_or rs i d)) is))

    pub row_no : false ≡ row_fits l (get_or rs i d) f → fields_fit l (i + 1) (drop i rs) ≡ false
    row_no = fits-here false

    pub row_yes : true ≡ row_fits l (get_or rs i d) f → fields_fit l (i + 1) (drop i rs) ≡ fields_fit l (i + 1 + 1) (drop (i + 1) rs)
    row_yes = fits-here true

    pub row_put : (w v : List ℕ) → v ≡ put_row (get_or rs i d) f w → put_fields l (i + 1) (drop i rs) w ≡ put_fields l (i + 1 + 1) (drop (i + 1) rs) v
    unfolding put_fields
    row_put w v e = ap (λ x. put_fields l (i + 1) x w) here ∙ ap (put_fields l (i + 1 + 1) (drop (i + 1) rs)) (sym (e ∙ ap (λ x. put_row (get_or rs i d) x w) is))

  pub no_row_fits : length rs ≤ i → fields_fit l (i + 1) (drop i rs) ≡ true
  unfolding fields_fit
  no_row_fits h = ap (fields_fit l (i + 1)) (drop_of_length-le rs h)

  pub no_row_put : (w : List ℕ) → length rs ≤ i → put_fields l (i + 1) (drop i rs) w ≡ w
  unfolding put_fields
  no_row_put w h = ap (λ x. put_fields l (i + 1) x w) (drop_of_length-le rs h)
