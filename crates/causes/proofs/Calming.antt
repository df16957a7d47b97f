-- What a block that is not quiet finds to fit passes the tests 8 and 9, and the other way about. Assumes nothing.
use Rattle.std.specs.Prelude.{cond, Option, Some, None}
use Prim.Native.Nat.{ℕ, ◌≤◌}
use mathlib.Core.Path.{◌≡◌, refl, sym, ap, ◌∙◌}
use mathlib.Core.Bool.{Bool, true, false, ◌&&◌}
use mathlib.Core.List.{List, [], ◌∷◌}
use lib.ListN.{length, get_or, length-map}
use borrow.Author.Tests.{ltb-false, not-true}
use Rattle.program.specs.Bind.{program_ok}
use Rattle.program.proofs.Checks.{every-at}
use Rattle.players.specs.Seats.{sounding, slot_numbers, slots_from}
use Rattle.player_checks.specs.Sound.{players_fit, samples_fit}
use Rattle.players.specs.declared.Players.{Players}
use Rattle.players.proofs.Kept.{sounding-few}
use Rattle.players.proofs.Seating.{slots-from}
use Rattle.session.specs.State.{slot_list}
use Rattle.session.specs.Tests.{slots_in_order}
use Rattle.session.specs.declared.Session.{Session}
use Rattle.session.specs.declared.Slots.{Slots}
use Rattle.events.specs.declared.SampleVoice.{SampleVoice}
use Rattle.block.specs.Inputs.{Lent}
use Rattle.causes.specs.Calm.{look_tests, look_fits}
use Rattle.causes.specs.Others.{others_fit, list_fits}
use Rattle.causes.specs.Quiet.{rest_tests, ground_tests}
use Rattle.causes.specs.Tests.{live_tests, form_tests, well_formed, program_fits, state_fits, in_time}
use Rattle.causes.proofs.Tallies.{and_both, fit-tells, fit-from, region-tells}

module _ (l : Lent) (s : Session) (v : SampleVoice) (fits : look_fits l.time l.words l.samples (length l.pcm) (length l.table) s v ≡ true) where
  at : (i : ℕ) → get_or (look_tests l.time l.words l.samples (length l.pcm) (length l.table) s v) i true ≡ true
  unfolding look_fits
  at i = every-at (look_tests l.time l.words l.samples (length l.pcm) (length l.table) s v) i fits

  ground : (i : ℕ) → get_or (ground_tests l.time l.words l.samples (length l.pcm) (length l.table) s v) i true ≡ true
  ground i = every-at (ground_tests l.time l.words l.samples (length l.pcm) (length l.table) s v) i (at 0)

  rest : (i : ℕ) → get_or (rest_tests s v) i true ≡ true
  rest i = every-at (rest_tests s v) i (ground 0)

  live : (i : ℕ) → get_or (live_tests v.voice s) i true ≡ true
  live i = every-at (live_tests v.voice s) i (rest 0)

  listed : (others_fit (Some v.program.regions) None s ≡ true) × (slots_in_order v.voice (slot_numbers (sounding v.players)) s ≡ true)
  unfolding list_fits
  listed = and_both (others_fit (Some v.program.regions) None s) _ (at 3)

  fit : (players_fit v.program v.players ≡ true) × (samples_fit l.samples v.players ≡ true)
  fit = and_both (players_fit v.program v.players) _ (at 2)

  formed : well_formed s v ≡ true
  unfolding well_formed
  formed =
      let x = fit-tells (Some v.program.regions) None s listed.0 in
      let y = region-tells v.program.regions s x.2 in
      let g = at 1 in
      let h = live 0 in
      let i = live 1 in
      let j = live 2 in
      let k = live 3 in
      let m = rest 1 in
      let n = rest 2 in
      let p = listed.1 in
      let q = fit.0 in
      simp (g, h, i, j, k, m, n, p, q, y, x.0, x.1)

  pub look-state : state_fits s v l.words l.samples (length l.pcm) (length l.table) ≡ true
  unfolding program_fits
  look-state = let f = fit.1 in simp (formed, ground 1, f)

  pub look-time : in_time l.time.offset s.event_serial ≡ true
  look-time = ground 2

  pub look-few : s.count ≤ 512
  look-few = ltb-false 512 s.count (not-true _ (live 3))

-- the other way about: what passes the tests 8 and 9 is found to fit
module _ (l : Lent) (s : Session) (v : SampleVoice) (state : state_fits s v l.words l.samples (length l.pcm) (length l.table) ≡ true) where
  form : (i : ℕ) → get_or (form_tests s v) i true ≡ true
  unfolding well_formed
  form i = every-at (form_tests s v) i (and_both (well_formed s v) _ state).0

  lent : (program_ok v.program l.words l.samples (length l.pcm) (length l.table) ≡ true) × (samples_fit l.samples v.players ≡ true)
  unfolding program_fits
  lent =
      let e = (and_both (well_formed s v) _ state).1 in
      let ts : List Bool = program_ok v.program l.words l.samples (length l.pcm) (length l.table) ∷ samples_fit l.samples v.players ∷ [] in
      (every-at ts 0 e, every-at ts 1 e)

  in-list : list_fits v.program.regions v.voice (slot_numbers (sounding v.players)) s ≡ true
  unfolding list_fits
  in-list =
      let o = fit-from v.program.regions s (not-true _ (form 3)) (not-true _ (form 5)) (not-true _ (form 10)) in
      let p = form 9 in
      simp (o, p)

  pub late : look_fits l.time l.words l.samples (length l.pcm) (length l.table) s v ≡ false → in_time l.time.offset s.event_serial ≡ false
  unfolding look_fits
  late e =
      let a = form 0 in
      let b = form 1 in
      let c = form 2 in
      let d = form 4 in
      let f = form 6 in
      let g = form 7 in
      let h = form 8 in
      let i = form 11 in
      let j = lent.0 in
      let k = lent.1 in
      let m = in-list in
      let t : ◌≡◌ {A = Bool} (look_fits l.time l.words l.samples (length l.pcm) (length l.table) s v) (in_time l.time.offset s.event_serial)
      = simp (a, b, c, d, f, g, h, i, j, k, m) (by-case (in_time l.time.offset s.event_serial)) in
      sym t ∙ e
    where
      by-case : (x : Bool) → (x && true) && true ≡ x
      by-case true = refl
      by-case false = refl

-- ---- a value where a test holds

pub cond-some : {A : Type 0} (b : Bool) (w x : A) → cond b (Some w) None ≡ Some x → (b ≡ true) × (w ≡ x)
cond-some true w x e = (refl, cc)
cond-some false w x e = cc

pub cond-none : {A : Type 0} (b : Bool) (w : A) → cond b (Some w) None ≡ None → b ≡ false
cond-none true w e = cc
cond-none false w e = refl

pub none-where : {A : Type 0} (b : Bool) (o : Option A) → b ≡ false → None ≡ cond b o None
none-where b o e = sym (ap (λ t. cond t o None) e)

pub some-where : {A : Type 0} (b : Bool) (o u : Option A) → b ≡ true → u ≡ o → u ≡ cond b o None
some-where b o u e f = f ∙ sym (ap (λ t. cond t o None) e)

-- the list fits where both of its tests pass
pub own-listed : (n id : ℕ) (s : Session) (ks : List ℕ) → others_fit (Some n) None s ≡ true → slots_in_order id ks s ≡ true → list_fits n id ks s ≡ true
unfolding list_fits
own-listed n id s ks e f = simp (e, f)

pub own-amiss : (n id : ℕ) (s : Session) (ks : List ℕ) → others_fit (Some n) None s ≡ false → list_fits n id ks s ≡ false
unfolding list_fits
own-amiss n id s ks e = simp e

pub own-apart : (n id : ℕ) (s : Session) (ks : List ℕ) → others_fit (Some n) None s ≡ true → slots_in_order id ks s ≡ false → list_fits n id ks s ≡ false
unfolding list_fits
own-apart n id s ks e f = simp (e, f)

-- the slots that the voice tells are its players'
pub own-slots : (ps : Players) (ks : Slots) → slots_from (slot_numbers (sounding ps)) ≡ ks → slot_list ks ≡ slot_numbers (sounding ps)
own-slots ps ks e =
    let few : length (slot_numbers (sounding ps)) ≤ 32 = rw (length-map (sounding ps) (λ p. p.slot)) (sounding-few ps) in
    ap slot_list (sym e) ∙ slots-from (slot_numbers (sounding ps)) few
