-- What a test of every element tells of each, and elements that are there. Assumes nothing.
use Prim.Native.Nat.{ℕ, zero, suc, ◌<◌}
use mathlib.Core.Path.{◌≡◌, refl, sym}
use mathlib.Core.Bool.{Bool, true, false, ◌&&◌, true≢false}
use mathlib.Core.List.{List, [], ◌∷◌, map}
use native.Mathlib.Omega.{arith}
use lib.ListN.{length, get_or}
use Rattle.program.specs.Valid.{every}
use Rattle.program.proofs.Checks.{every-at}

-- each of the elements passes where all do
pub each_at : {A : Type 0} (f : A → Bool) (xs : List A) (i : ℕ) (d : A) → every (map f xs) ≡ true → i < length xs → f (get_or xs i d) ≡ true
each_at f [] i d e h = absurd (omega arith)
each_at f (x ∷ xs) zero d e h = every-at (map f (x ∷ xs)) 0 e
each_at f (x ∷ xs) (suc i) d e h = each_at f xs i d (rest (f x) e) (omega arith)
  where
    rest : (t : Bool) → (t && every (map f xs)) ≡ true → every (map f xs) ≡ true
    rest true e = e
    rest false e = absurd (true≢false (sym e))

-- an element that is there does not hang on what would stand for it
pub get_d_any : {A : Type 0} (l : List A) (i : ℕ) (a b : A) → i < length l → get_or l i a ≡ get_or l i b
get_d_any [] i a b h = absurd (omega arith)
get_d_any (x ∷ xs) zero a b h = refl
get_d_any (x ∷ xs) (suc i) a b h = get_d_any xs i a b (omega arith)
