-- A quiet block passes the tests 8 and 9, and the plain way plays nothing else. Assumes nothing.
use Rattle.std.specs.List.{list_any}
use Rattle.std.specs.Prelude.{cond, filter, ◌||◌, Some}
use Prim.Native.Nat.{ℕ}
use mathlib.Core.Path.{◌≡◌, refl, ap, ◌∙◌}
use mathlib.Core.Bool.{Bool, true, false, true≢false}
use mathlib.Core.List.{List, [], ◌∷◌, map}
use lib.Dec.{ltb, eqb}
use lib.ListN.{length, get_or, take}
use borrow.Author.Tests.{ltb-false, eqb-true, not-true}
use Rattle.program.specs.Valid.{every}
use Rattle.program.proofs.Checks.{every-at}
use Rattle.players.specs.Seats.{sounding, slot_numbers}
use Rattle.player_checks.specs.Sound.{player_fits, sample_fits, players_fit, samples_fit}
use Rattle.players.specs.declared.Players.{Players}
use Rattle.player.specs.declared.Player.{Player}
use Rattle.session.specs.Lists.{used_of}
use Rattle.session.specs.Records.{of_voice}
use Rattle.session.specs.Rules.{slots_of}
use Rattle.session.specs.State.{view}
use Rattle.session.specs.Tests.{stray_record, over_voice, region_outside, same_list, slots_in_order}
use Rattle.session.specs.declared.PlayerRecord.{PlayerRecord}
use Rattle.session.specs.declared.Session.{Session}
use Rattle.events.specs.declared.SampleVoice.{SampleVoice}
use Rattle.block.specs.Inputs.{Lent}
use Rattle.block.specs.Ready.{Covers}
use Rattle.block.specs.Block.{played_block}
use Rattle.block.proofs.Quiet.{quiet_block, quiet_is}
use Rattle.causes.specs.Tests.{live_tests, over_players, well_formed, program_fits, state_fits, parts_fit, lent_fits, in_time, fit_tests}
use Rattle.causes.specs.Quiet.{rest_tests, ground_tests, quiet_tests, is_quiet}
use Rattle.causes.specs.Others.{outside}
use Rattle.causes.proofs.Tallies.{fit-tells, region-tells, none-is}
use Rattle.causes.proofs.Passed.{connected-fits}

-- ---- no player, and no record of the voice

none-sounding : (ps : Players) → ps.count ≡ 0 → sounding ps ≡ []
none-sounding ps e = ap (λ (n : ℕ). take (used_of 32 n) ps.players) e

none-listed : (id : ℕ) (rs : List PlayerRecord) → list_any (of_voice id) rs ≡ false → slots_of id rs ≡ []
none-listed id [] e = refl
none-listed id (r ∷ rs) e = by-case (eqb r.voice id) e (none-listed id rs)
  where
    by-case : (t : Bool) → t || list_any (of_voice id) rs ≡ false → (list_any (of_voice id) rs ≡ false → slots_of id rs ≡ [])
        → map (λ (x : PlayerRecord). x.slot) (cond t (r ∷ filter (of_voice id) rs) (filter (of_voice id) rs)) ≡ []
    by-case true e rest = absurd (true≢false e)
    by-case false e rest = rest e

module _ (s : Session) (v : SampleVoice) (silent : v.players.count ≡ 0) where
  none_over : over_players v.players ≡ false
  none_over = ap (ltb 32) silent

  none-unfit : players_fit v.program v.players ≡ true
  unfolding players_fit
  none-unfit = ap (λ (qs : List Player). every (map (player_fits v.program) qs)) (none-sounding v.players silent)

  none-past : (ss : List ℕ) → samples_fit ss v.players ≡ true
  unfolding samples_fit
  none-past ss = ap (λ (qs : List Player). every (map (sample_fits ss) qs)) (none-sounding v.players silent)

  own-order : list_any (of_voice v.voice) (view s) ≡ false → slots_in_order v.voice (slot_numbers (sounding v.players)) s ≡ true
  unfolding slots_in_order
  own-order e =
      ap (λ (qs : List Player). same_list (slots_of v.voice (view s)) (slot_numbers qs)) (none-sounding v.players silent)
      ∙ ap (λ (ks : List ℕ). same_list ks []) (none-listed v.voice (view s) e)

-- ---- inputs that the block reads

module _ (l : Lent) (fits : lent_fits l ≡ true) where
  fit : (i : ℕ) → get_or (fit_tests l.time.frames l.inputs (length l.left) (length l.right)) i true ≡ true
  unfolding parts_fit
  fit i = every-at (fit_tests l.time.frames l.inputs (length l.left) (length l.right)) i fits

  pub gate-covers : Covers l.inputs.gate l.time.frames
  gate-covers = connected-fits l.inputs.gate l.time.frames (fit 5)

  pub amp-covers : Covers l.inputs.amp l.time.frames
  amp-covers = connected-fits l.inputs.amp l.time.frames (fit 7)

-- ---- what the quiet tests tell

module _ (l : Lent) (s : Session) (v : SampleVoice)
    (quiet : is_quiet l.time l.inputs.gate l.words l.samples (length l.pcm) (length l.table) s v ≡ true) where
  at : (i : ℕ) → get_or (quiet_tests l.time l.inputs.gate l.words l.samples (length l.pcm) (length l.table) s v) i true ≡ true
  unfolding is_quiet
  at i = every-at (quiet_tests l.time l.inputs.gate l.words l.samples (length l.pcm) (length l.table) s v) i quiet

  ground : (i : ℕ) → get_or (ground_tests l.time l.words l.samples (length l.pcm) (length l.table) s v) i true ≡ true
  ground i = every-at (ground_tests l.time l.words l.samples (length l.pcm) (length l.table) s v) i (at 1)

  rest : (i : ℕ) → get_or (rest_tests s v) i true ≡ true
  rest i = every-at (rest_tests s v) i (ground 0)

  live : (i : ℕ) → get_or (live_tests v.voice s) i true ≡ true
  live i = every-at (live_tests v.voice s) i (rest 0)

  silent : v.players.count ≡ 0
  silent = eqb-true v.players.count 0 (at 0)

  listed : (stray_record s ≡ false) × (over_voice s ≡ false) × (list_any (outside (Some v.program.regions)) (view s) ≡ false) × (list_any (of_voice v.voice) (view s) ≡ false)
  listed = fit-tells (Some v.program.regions) (Some v.voice) s (at 2)

  formed : well_formed s v ≡ true
  unfolding well_formed
  formed =
      let x = listed in
      let y = region-tells v.program.regions s x.2 in
      let h = live 0 in
      let i = live 1 in
      let j = live 2 in
      let k = live 3 in
      let m = rest 1 in
      let n = rest 2 in
      let p = none_over s v silent in
      let q = none-unfit s v silent in
      let r = own-order s v silent x.3 in
      simp (h, i, j, k, m, n, p, q, r, y, x.0, x.1)

  pub quiet-state : state_fits s v l.words l.samples (length l.pcm) (length l.table) ≡ true
  unfolding program_fits
  quiet-state = simp (formed, ground 1, none-past s v silent l.samples)

  pub quiet-time : in_time l.time.offset s.event_serial ≡ true
  quiet-time = ground 2

  pub quiet-played : length s.players ≡ 512 → quiet_block l s v ≡ played_block l s v
  quiet-played size =
      quiet_is l s v size (ltb-false 512 s.count (not-true _ (live 3))) silent listed.3 (none-is _ (at 3))
