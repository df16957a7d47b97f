-- Laws of a line's fields. Assumes nothing.
use Prim.Native.Nat.{ℕ}
use mathlib.Core.List.{List}
use mathlib.Core.Path.{◌≡◌, refl, ap, ◌∙◌}
use denote.Ref.{Bor}
use lib.ListN.{get_or}
use Rattle.std.specs.Prelude.{Option, Some, None, option_map, unwrap_or, slice_get}
use Rattle.std.proofs.lemmas.Option.{unwrap_or-slice_get}

under-reference : {A : Type 0} (r : Option (Bor A)) (d : Bor A) → (unwrap_or r d).now ≡ unwrap_or (option_map (λ x. x.now) r) d.now
under-reference None d = refl
under-reference (Some x) d = refl

-- the element that a reference is to, or else the one of d
pub unwrapped : {A : Type 0} (r : Option (Bor A)) (d : Bor A) (xs : List A) (k : ℕ) → option_map (λ x. x.now) r ≡ slice_get xs k → (unwrap_or r d).now ≡ get_or xs k d.now
unwrapped r d xs k e = under-reference r d ∙ ap (λ o. unwrap_or o d.now) e ∙ unwrap_or-slice_get xs k d.now
