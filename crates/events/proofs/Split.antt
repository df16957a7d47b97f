-- The starts of an event part in two: the session's, which need of the voice no more than its id, its next slot and how many players it
-- has, and the voice's, which need nothing of the session. Assumes nothing.
use Rattle.std.proofs.Common.{◌≡◌, ℕ, ◌+◌, ◌%◌, ◌^◌, ◌<◌, ◌≤◌, Bool, true, false, ltb, leb, List, [], ◌∷◌, length, take, sym, refl, ap, ◌∙◌, le_refl, arith, ltb-false, ltb-true, le-leb, cond}
use lib.Seq.{take_all}
use mathlib.Core.List.{foldl}
use borrow.Author.Tests.{lt-leb}
use Rattle.player.specs.declared.Player.{Player}
use Rattle.players.specs.declared.Players.{Players}
use Rattle.players.specs.Seats.{seated}
use Rattle.program.specs.Region.{region_at}
use Rattle.program.specs.declared.region.Region.{Region}
use Rattle.session.specs.Records.{entered}
use Rattle.session.specs.Rules.{start_marks, start_one}
use Rattle.session.specs.State.{view, relist, Starting, start_with, start_next, started_many}
use Rattle.session.specs.declared.Session.{Session}
use Rattle.session.specs.declared.Start.{Start}
use Rattle.session.proofs.Relist.{view-few}
use Rattle.session.proofs.Started.{enter-after}
use Rattle.session.proofs.Yield.{length-marks}
use Rattle.note.specs.declared.NoteState.{NoteState}
use Rattle.events.specs.declared.SampleVoice.{SampleVoice}
use Rattle.events.specs.declared.Both.{Both}
use Rattle.events.specs.declared.Cause.{Cause}
use Rattle.events.specs.Voice.{Kit, with_started, with_dropped}
use Rattle.events.specs.Start.{starts_of, player_from, player_of, one_more_dropped, dropped_one, start_in, marked_by, entered_by, joined_by, started_region, started_all}
use Rattle.events.proofs.Kept.{is-dropped, is-joined, region-voice}

-- ---- the session's part

-- the end of a loop that folds a list from left to right
pub fold_over : {A B : Type 0} (f : B → A → B) (b : B) (xs : List A) (i : ℕ) (best : B) → best ≡ foldl f b (take i xs) → i ≡ length xs → (zs : List A) → xs ≡ zs → best ≡ foldl f b zs
fold_over f b xs i best so_far e zs g = so_far ∙ ap (foldl f b) (ap (λ (m : ℕ). take m xs) e ∙ take_all (length xs) xs (le_refl _) ∙ g)

-- what the session's starts find
abbrev seen : Both → Starting
seen b = record { session = b.session; held = b.voice.players.count; slot = b.voice.next_slot }

module _ (k : Kit) (n : NoteState) (c : Cause) where
  seen-dropped : (b : Both) (i : ℕ) → 32 ≤ b.voice.players.count
      → seen (started_region k n c b i) ≡ start_with false (start_in k n c b.voice i) (seen b)
  unfolding marked_by start_one
  seen-dropped b i h = ap seen (is-dropped k n c b i h)

  seen-joined : (b : Both) (i : ℕ) → b.voice.players.count < 32
      → seen (started_region k n c b i) ≡ start_with true (start_in k n c b.voice i) (seen b)
  unfolding marked_by entered_by joined_by start_one
  seen-joined b i h =
      let st = start_in k n c b.voice i in
      let s = b.session in
      let few : length (start_marks st (view s)) ≤ 512 = omega (arith, length-marks st (view s), view-few s) in
      let with : Session → Starting = λ t. record { session = t; held = b.voice.players.count + 1; slot = (b.voice.next_slot + 1) % 2 ^ 32 } in
      ap seen (is-joined k n c b i h)
      ∙ ap with (enter-after s (relist (start_marks st (view s)) s) (start_marks st (view s)) (entered st b.voice.next_slot) few refl)

  seen_one : (b : Both) (i : ℕ) → seen (started_region k n c b i) ≡ start_next (seen b) (start_in k n c b.voice i)
  unfolding start_next
  seen_one b i = by-case (ltb b.voice.players.count 32) refl where
    by-case : (t : Bool) → ltb b.voice.players.count 32 ≡ t → seen (started_region k n c b i) ≡ start_with t (start_in k n c b.voice i) (seen b)
    by-case true e = seen-joined b i (ltb-true b.voice.players.count 32 e)
    by-case false e = seen-dropped b i (ltb-false b.voice.players.count 32 e)

  seen_all : (is : List ℕ) (b : Both) → seen (foldl (started_region k n c) b is) ≡ foldl start_next (seen b) (starts_of k.words b.voice.voice n c is)
  seen_all [] b = refl
  seen_all (i ∷ is) b =
      seen_all is (started_region k n c b i)
      ∙ ap (λ (id : ℕ). foldl start_next (seen (started_region k n c b i)) (starts_of k.words id n c is)) (region-voice k n c b i).voice
      ∙ ap (λ (x : Starting). foldl start_next x (starts_of k.words b.voice.voice n c is)) (seen_one b i)

  pub session-all : (is : List ℕ) (b : Both) (sts : List Start) → sts ≡ starts_of k.words b.voice.voice n c is
      → (s : Session) → s ≡ started_many sts b.voice.players.count b.voice.next_slot b.session → s ≡ (started_all k n c is b).session
  unfolding started_all started_many
  session-all is b sts e s s-is =
      s-is ∙ ap (λ (l : List Start). (foldl start_next (seen b) l).session) e ∙ ap (λ (x : Starting). x.session) (sym (seen_all is b))

-- ---- the voice's part

abbrev pub started_voice : Kit → NoteState → Cause → SampleVoice → ℕ → SampleVoice
started_voice k n c v i = cond (leb 32 v.players.count) (dropped_one v) (joined_by (player_of k n c v i) v)

module _ (k : Kit) (n : NoteState) (c : Cause) where
  voice-one : (b : Both) (i : ℕ) → (started_region k n c b i).voice ≡ started_voice k n c b.voice i
  unfolding started_region
  voice-one b i = picked (leb 32 b.voice.players.count) _ _ where
    picked : (t : Bool) (x y : Both) → (cond t x y).voice ≡ cond t x.voice y.voice
    picked true x y = refl
    picked false x y = refl

  pub voice-all : (is : List ℕ) (b : Both) → (foldl (started_region k n c) b is).voice ≡ foldl (started_voice k n c) b.voice is
  voice-all [] b = refl
  voice-all (i ∷ is) b =
      voice-all is (started_region k n c b i) ∙ ap (λ (v : SampleVoice). foldl (started_voice k n c) v is) (voice-one b i)

  pub voices-all : (is : List ℕ) (b : Both) (w : SampleVoice) → w ≡ foldl (started_voice k n c) b.voice is → w ≡ (started_all k n c is b).voice
  unfolding started_all
  voices-all is b w e = e ∙ sym (voice-all is b)

-- the voice with what its loop carries
abbrev pub carried : Players → ℕ → ℕ → SampleVoice → SampleVoice
carried ps next d v = with_dropped d (with_started ps next v)

-- a turn of the voice's loop leaves the players q, the next slot m and the dropped starts e
module _ (k : Kit) (n : NoteState) (c : Cause) (v : SampleVoice) (ps : Players) (next d i : ℕ) (q : Players) (m e : ℕ) where
  pub voice-joins : ps.count < 32 → (x : Region) → x ≡ region_at k.words i → (p : Player) → p ≡ player_from k x i n c next v.sample_rate
      → q ≡ seated p ps → m ≡ (next + 1) % 2 ^ 32 → e ≡ d → carried q m e v ≡ started_voice k n c (carried ps next d v) i
  unfolding joined_by player_of
  voice-joins h x x-is p p-is q-is m-is e-is = rw (lt-leb 32 ps.count h, q-is, m-is, e-is, p-is, x-is)

  pub voice-drops : 32 ≤ ps.count → q ≡ ps → m ≡ next → e ≡ one_more_dropped d → carried q m e v ≡ started_voice k n c (carried ps next d v) i
  voice-drops h q-is m-is e-is = rw (le-leb 32 ps.count h, q-is, m-is, e-is)
