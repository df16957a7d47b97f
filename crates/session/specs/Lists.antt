-- Words on lists that the definitions of the session share.
use Rattle.std.specs.Borrow.{Bor}
use Rattle.std.specs.List.{list_any}
use Rattle.std.specs.Prelude.{◌≡◌, ℕ, Bool, false, List, [], ◌∷◌, ◌++◌, map, length, drop, nat_eq, nat_lt, cond, ◌||◌}

-- whether the number k stands in the list
abbrev pub elem : ℕ → List ℕ → Bool
elem k xs = list_any (λ x. nat_eq x k) xs

-- whether some number stands in the list twice
abbrev pub twice : List ℕ → Bool
twice [] = false
twice (x ∷ xs) = elem x xs || twice xs

-- g at an element that p holds of
abbrev pub change_if : {A : Type 0} → (A → Bool) → (A → A) → A → A
change_if p g x = cond (p x) (g x) x

-- g at each element that p holds of; the others, the order and the number of them as they were
abbrev pub change_where : {A : Type 0} → (A → Bool) → (A → A) → List A → List A
change_where p g xs = map (change_if p g) xs

-- the same at the first element that p holds of, and at no other
abbrev pub change_first : {A : Type 0} → (A → Bool) → (A → A) → List A → List A
change_first p g [] = []
change_first p g (x ∷ xs) = cond (p x) (g x ∷ xs) (x ∷ change_first p g xs)

-- how many places of an array of the size `cap` are in use where the count says n: never more than it has
abbrev pub used_of : ℕ → ℕ → ℕ
used_of cap n = cond (nat_lt n cap) n cap

-- ks in front, and each place behind them as it was
abbrev pub packed : {A : Type 0} → List A → List A → List A
packed ks xs = ks ++ drop (length ks) xs

-- each answer that a test of a reference may give is what p says of the value
abbrev pub AnswersAs : {X : Type 0} → (Bor X → Bool → Type 0) → (X → Bool) → Type 0
AnswersAs {X} gives p = (x : Bor X) (r : Bool) → gives x r → r ≡ p x.now
