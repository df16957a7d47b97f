-- Where a sample's channels lie among the frames. Assumes nothing.
use Rattle.std.specs.Prelude.{unwrap_or, cond, Option, Some, None}
use Rattle.segments.specs.Source.{Sound}
use Prim.Native.Nat.{ℕ, zero, suc, ◌+◌, ◌-◌, ◌≤◌, min}
use mathlib.Core.Path.{◌≡◌, sym, ap, subst, ◌∙◌}
use mathlib.Core.List.{List, [], ◌∷◌}
use native.Mathlib.Omega.{arith}
use lib.ListN.{length, take, drop}
use lib.Seq.{take-nil, drop-nil}
use lib.Ieee.{Float}
use Rattle.program.specs.declared.sample.Sample.{Sample}
use Rattle.program.specs.Sample.{sample_at}
use Rattle.player.specs.declared.Player.{Player}
use Rattle.players.specs.Mix.{Sounds, first_channel, second_channel, lent_to}

take-held : {A : Type 0} (n : ℕ) (l : List A) → take (min n (length l)) l ≡ take n l
take-held zero l = let z : min 0 (length l) ≡ 0 = omega arith in rw z
take-held (suc n) [] = let z : min (suc n) 0 ≡ 0 = omega arith in rw z
take-held (suc n) (x ∷ xs) =
    let z : min (suc n) (suc (length xs)) ≡ suc (min n (length xs)) = omega arith in
    ap (λ k. take k (x ∷ xs)) z ∙ ap (λ l. x ∷ l) (take-held n xs)

-- n elements from s on, with both ends held to the list
pub part_held : {A : Type 0} (xs : List A) (s n : ℕ) → take (min (s + n) (length xs) - min s (length xs)) (drop (min s (length xs)) xs) ≡ take n (drop s xs)
part_held [] s n = ap (take (min (s + n) 0 - min s 0)) (drop-nil (min s 0)) ∙ take-nil (min (s + n) 0 - min s 0) ∙ sym (ap (take n) (drop-nil s) ∙ take-nil n)
part_held (x ∷ xs) zero n =
    let z : min 0 (suc (length xs)) ≡ 0 = omega arith in
    let y : min (0 + n) (suc (length xs)) - min 0 (suc (length xs)) ≡ min n (suc (length xs)) = omega arith in
    ap (λ k. take k (drop (min 0 (suc (length xs))) (x ∷ xs))) y ∙ ap (λ k. take (min n (suc (length xs))) (drop k (x ∷ xs))) z ∙ take-held n (x ∷ xs)
part_held (x ∷ xs) (suc s) n =
    let z : min (suc s) (suc (length xs)) ≡ suc (min s (length xs)) = omega arith in
    let y : min (suc s + n) (suc (length xs)) - min (suc s) (suc (length xs)) ≡ min (s + n) (length xs) - min s (length xs) = omega arith in
    ap (λ k. take k (drop (min (suc s) (suc (length xs))) (x ∷ xs))) y ∙ ap (λ k. take (min (s + n) (length xs) - min s (length xs)) (drop k (x ∷ xs))) z ∙ part_held xs s n

-- what the sample s shows of both channels is what the player is lent
pub is-lent : (x : Sounds) (p : Player) (s : Sample) → s ≡ sample_at x.samples (unwrap_or p.sample 0xffff_ffff) → (a : List Float) (b : Option (List Float))
    → a ≡ first_channel x.frames s → b ≡ cond p.cold.stereo (Some (second_channel x.frames s)) None
    → ◌≡◌ {A = Sound} (record { a = a; b = b; table = x.table }) (lent_to x p)
unfolding lent_to
is-lent x p s is a b ea eb = rw (ea, eb, is)
