-- What the test of `reap` and the turns of `own_offs` tell. Assumes nothing.
use Rattle.std.specs.List.{list_any}
use Rattle.std.proofs.Common.{None, Option, Some, cond}
use Prim.Native.Nat.{ℕ, zero, suc, ◌+◌, ◌-◌, ◌<◌, ◌≤◌}
use mathlib.Core.Path.{◌≡◌, refl, sym, ap, ◌∙◌}
use mathlib.Core.Bool.{Bool, true, false}
use native.Mathlib.Omega.{arith}
use Rattle.players.specs.Seats.{sounding, is_over, reaped}
use Rattle.session.specs.Offs.{took_first}
use Rattle.session.specs.declared.Session.{Session}
use Rattle.events.specs.declared.Both.{Both}
use Rattle.events.specs.declared.SampleVoice.{SampleVoice}
use Rattle.events.specs.Voice.{Kit, with_players}
use Rattle.gates.specs.Off.{without_players, reaped_both, is_taken, took_own, turned_own, own_offs}

abbrev pub both : Session → SampleVoice → Both
both s v = record { session = s; voice = v }

-- ---- players that end: o tells whether there are any

module _ (s : Session) (v : SampleVoice) (o : Bool) (told : o ≡ list_any is_over (sounding v.players)) where
  pub reap-none : o ≡ false → both s v ≡ reaped_both (both s v)
  unfolding reaped_both
  reap-none h =
      sym (ap (λ t. cond t (both (without_players v.voice (reaped v.players) s) (with_players (reaped v.players).players v)) (both s v)) (sym told ∙ h))

-- ---- the voice's own off times

abbrev pub owns : Both → Bool
owns b = is_taken (took_first b.voice.voice b.session).first

-- one turn more, and none
own_on : (k : Kit) (m n : ℕ) (b : Both) → owns b ≡ true → own_offs k m (suc n) b ≡ own_offs k m n (took_own k m b)
unfolding own_offs
own_on k m n b h = ap (λ t. cond t (own_offs k m n (took_own k m b)) b) h

own-none : (k : Kit) (m n : ℕ) (b : Both) → owns b ≡ false → own_offs k m n b ≡ b
unfolding own_offs
own-none k m zero b h = refl
own-none k m (suc n) b h = ap (λ t. cond t (own_offs k m n (took_own k m b)) b) h

own-over : (k : Kit) (m n : ℕ) (b : Both) → n ≡ 0 → own_offs k m n b ≡ b
unfolding own_offs
own-over k m n b e = ap (λ x. own_offs k m x b) e

-- what is left after i of n turns does the same
abbrev pub Turning : Kit → ℕ → ℕ → Both → ℕ → Both → Type 0
Turning k m n a i b = own_offs k m n a ≡ own_offs k m (n - i) b

module _ (k : Kit) (m n : ℕ) (a : Both) (i : ℕ) (b : Both) (so_far : Turning k m n a i b) where
  pub turn-over : n ≤ i → b ≡ own_offs k m n a
  turn-over h = let z : n - i ≡ 0 = omega arith in sym (so_far ∙ own-over k m (n - i) b z)

  module _ (t : Option Both) (told : t ≡ turned_own k m b) where
    took : (x : Bool) → owns b ≡ x → t ≡ cond x (Some (took_own k m b)) None
    unfolding turned_own
    took x e = told ∙ ap (λ y. cond y (Some (took_own k m b)) None) e

    pub turn-stop : t ≡ None → b ≡ own_offs k m n a
    turn-stop h = by-case (owns b) refl where
      by-case : (x : Bool) → owns b ≡ x → b ≡ own_offs k m n a
      by-case true e = let f : t ≡ Some (took_own k m b) = took true e in cc
      by-case false e = sym (so_far ∙ own-none k m (n - i) b e)

    pub turn_on : (c : Both) → i < n → t ≡ Some c → Turning k m n a (i + 1) c
    turn_on c in-time h = by-case (owns b) refl where
      by-case : (x : Bool) → owns b ≡ x → Turning k m n a (i + 1) c
      by-case true e =
          let z : n - i ≡ suc (n - (i + 1)) = omega arith in
          let f : Some c ≡ Some (took_own k m b) = sym h ∙ took true e in
          let g : c ≡ took_own k m b = cc in
          so_far ∙ ap (λ x. own_offs k m x b) z ∙ own_on k m (n - (i + 1)) b e ∙ ap (own_offs k m (n - (i + 1))) (sym g)
      by-case false e = let f : t ≡ None = took false e in cc
