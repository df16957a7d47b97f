-- A block without events leaves what the plain way leaves. Assumes nothing.
use Rattle.std.specs.List.{list_any}
use Rattle.std.specs.Prelude.{Option, Some, None, is_some}
use Prim.Native.Nat.{ℕ, ◌-◌, ◌<◌, ◌≤◌}
use mathlib.Core.Path.{◌≡◌, refl, sym, ap, ◌∙◌}
use mathlib.Core.Bool.{Bool, true, false, not, ◌&&◌}
use mathlib.Core.List.{List, ◌++◌}
use native.Mathlib.Nat.{lt_of_lt_of_le}
use lib.ListN.{length, take, drop}
use lib.Ieee.{Float}
use borrow.Author.Tests.{not-true}
use Rattle.players.specs.Mix.{Sounds, Mixture}
use Rattle.players.specs.Seats.{sounding, is_over, PlayersOk}
use Rattle.players.specs.declared.Players.{Players}
use Rattle.players.specs.declared.Tune.{Tune}
use Rattle.session.specs.declared.Session.{Session}
use Rattle.session.specs.declared.Slots.{Slots}
use Rattle.events.specs.Voice.{with_players}
use Rattle.events.specs.declared.Both.{Both}
use Rattle.events.specs.declared.SampleVoice.{SampleVoice}
use Rattle.block.specs.Block.{Played}
use Rattle.block.specs.Calm.{tune_of, calm_part, settled}
use Rattle.block.specs.Inputs.{Lent, Reaches, cues_of, sounds_of}
use Rattle.block.specs.Next.{next_gate}
use Rattle.block.specs.Ready.{Covers, Ready}
use Rattle.block.proofs.Calming.{calm-is, calm-stays}
use Rattle.block.proofs.Wholes.{covers-as}
use Rattle.causes.specs.Calm.{look_fits}
use Rattle.causes.specs.Others.{off_waits}
use Rattle.causes.specs.Tests.{lent_fits}
use Rattle.causes.proofs.Tallies.{none-is}
use Rattle.causes.proofs.Calming.{look-state, look-time, look-few}
use Rattle.causes.proofs.Passed.{with_outs, ready}
use Rattle.causes.proofs.Tallies.{and_both}
use Rattle.voice.specs.Calls.{done, called, blocked}
use Rattle.voice.specs.declared.Called.{Called}
use Rattle.voice.proofs.Refusals.{block_out}

-- 8 and 9 pass, no off time waits on the voice's records, and the gate does not turn
pub record Calm (l : Lent) (s : Session) (v : SampleVoice) : Type 0 where
  pub fits : look_fits l.time l.words l.samples (length l.pcm) (length l.table) s v ≡ true
  pub still : off_waits v.voice s ≡ false
  pub gate : next_gate v.gate_prev l.inputs.gate 0 l.time.frames ≡ None

-- as the look and the gate tell it
pub calm-told : (l : Lent) (s : Session) (v : SampleVoice) (waits : Bool)
    → (look_fits l.time l.words l.samples (length l.pcm) (length l.table) s v ≡ true) × (off_waits v.voice s ≡ waits)
    → (b : Bool) → b ≡ (not waits && not (is_some (next_gate v.gate_prev l.inputs.gate 0 l.time.frames))) → b ≡ true → Calm l s v
calm-told l s v waits h b e f =
    let q = and_both (not waits) _ (sym e ∙ f) in
    record { fits = h.0; still = h.1 ∙ not-true waits q.0; gate = none-is _ q.1 }

-- ---- what it leaves

-- the players have sounded over all its n frames, and then the session hears of those that ended
unfoldable pub calm_played : Sounds → Option Tune → Option (List Float) → ℕ → Session → SampleVoice → Played
calm_played x t amp n s v =
    let m = calm_part x t amp v.players n in
    record {
      both = settled m.mixed.ended (record { session = s; voice = with_players m.mixed.players v });
      left = m.left;
      right = m.right;
    }

module _ (x : Sounds) (t : Option Tune) (amp : Option (List Float)) (n : ℕ) (s : Session) (v : SampleVoice) where
  pub left_by : (u : Option Tune) → u ≡ t → (m : Mixture) → m ≡ calm_part x u amp v.players n
      → (b : Both) → b ≡ settled m.mixed.ended (record { session = s; voice = with_players m.mixed.players v })
      → ◌≡◌ {A = Played} (record { both = b; left = m.left; right = m.right }) (calm_played x t amp n s v)
  unfolding calm_played
  left_by u eu m em b eb =
      ap (λ (z : Both). record { both = z; left = m.left; right = m.right }) eb
      ∙ ap (λ (k : Mixture). record { both = settled k.mixed.ended (record { session = s; voice = with_players k.mixed.players v }); left = k.left; right = k.right })
      (em ∙ ap (λ (z : Option Tune). calm_part x z amp v.players n) eu)

-- nothing ended, and nobody is done
pub stays-as : (e : Slots) (s : Session) (v : SampleVoice) (ps : Players) → PlayersOk ps → e.count ≡ 0 → (over : Bool) → over ≡ list_any is_over (sounding ps) → not over ≡ true
    → record { session = s; voice = with_players ps v } ≡ settled e (record { session = s; voice = with_players ps v })
stays-as e s v ps ok none over told not-over = sym (calm-stays e s (with_players ps v) ok none (sym told ∙ not-true over not-over))

-- ---- the call

-- an input that covers a frame reaches the first
reaches : (x : Option (List Float)) (n : ℕ) → 0 < n → Covers x n → Reaches x 0
reaches None n h c = tt
reaches (Some xs) n h c = lt_of_lt_of_le h c

module _ (l : Lent) (s : Session) (v : SampleVoice)
    (calm : Calm l s v) (size : length s.players ≡ 512) (places : length v.players.players ≡ 32) (fits : lent_fits l ≡ true) where
  abbrev n : ℕ
  n = l.time.frames

  abbrev front : List Float → List Float
  front xs = take (n - 0) (drop 0 xs)

  able : Ready (with_outs l (front l.left) (front l.right)) v
  able = ready l s v places fits (look-state l s v calm.fits) (look-time l s v calm.fits)

  -- what the block leans on
  pub calm-asks : PlayersOk v.players × (8194 ≤ length l.table) × (length (front l.right) ≡ length (front l.left)) × Covers l.inputs.amp (length (front l.left))
      × Reaches l.inputs.freq 0 × Reaches l.inputs.bend 0
  calm-asks =
      let r = able in
      (r.voice.players, r.table, r.right ∙ sym r.left, covers-as l.inputs.amp _ n r.left r.amp, reaches l.inputs.freq n r.some r.freq, reaches l.inputs.bend n r.some r.bend)

  pub calm-out : (r : Called) (b : Both) → r ≡ called done b.session b.voice → (xs ys : List Float)
      → record { both = b; left = xs; right = ys }
      ≡ calm_played (sounds_of (cues_of l)) (tune_of v.note l.inputs) l.inputs.amp (length (front l.left)) s v
      → length (take 0 l.left ++ (xs ++ drop (n - 0) (drop 0 l.left))) ≡ length l.left
      → length (take 0 l.right ++ (ys ++ drop (n - 0) (drop 0 l.right))) ≡ length l.right
      → record { called = r; left = take 0 l.left ++ (xs ++ drop (n - 0) (drop 0 l.left)); right = take 0 l.right ++ (ys ++ drop (n - 0) (drop 0 l.right)) } ≡ blocked l s v
  unfolding calm_played
  calm-out r b er xs ys e f g =
      let same = calm-is l s v size (look-few l s v calm.fits) calm.still able.some calm.gate in
      block_out l s v fits (look-state l s v calm.fits) (look-time l s v calm.fits) r (record { both = b; left = xs; right = ys }) er l.left l.right
      (e ∙ ap (λ (k : ℕ). calm_played (sounds_of (cues_of l)) (tune_of v.note l.inputs) l.inputs.amp k s v) able.left ∙ sym same) f g
