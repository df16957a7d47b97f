-- A block in which nothing happens: no player, no record of the voice, no turn of the gate. Session and voice stay as they were, and
-- both outputs are silence. Assumes nothing.
use Rattle.std.specs.List.{list_any}
use Rattle.std.specs.Prelude.{cond, ◌||◌, is_some, None, Option, Some}
use Prim.Native.Nat.{ℕ, ◌-◌, ◌≤◌}
use mathlib.Core.Path.{◌≡◌, refl, sym, ap, ◌∙◌}
use mathlib.Core.Bool.{Bool, true, false, ◌&&◌, true≢false}
use mathlib.Core.List.{List, [], ◌∷◌, ◌++◌}
use lib.ListN.{length, take, drop, replicate, take-append-drop}
use lib.Dec.{ltb, eqb}
use lib.Ieee.{Float}
use Rattle.exact.specs.Single.{f0}
use Rattle.session.specs.Records.{of_voice, waits}
use Rattle.session.specs.State.{view}
use Rattle.session.specs.declared.PlayerRecord.{PlayerRecord}
use Rattle.session.specs.declared.Session.{Session}
use Rattle.players.specs.Mix.{Sounds, tuned_all, played_band, played_all}
use Rattle.players.specs.Seats.{retuned_all}
use Rattle.players.specs.declared.Tune.{Tune}
use Rattle.gates.specs.Off.{reaped_both}
use Rattle.events.specs.Voice.{with_players}
use Rattle.events.specs.declared.SampleVoice.{SampleVoice}
use Rattle.block.specs.Inputs.{Lent, cues_of, sounds_of}
use Rattle.block.specs.Render.{Scene, after_part, scene_after, mixture_of, rendered_to}
use Rattle.block.specs.Block.{amplified, Played, played_of, played_block}
use Rattle.block.specs.Calm.{tune_of}
use Rattle.block.specs.Next.{next_gate}
use Rattle.block.proofs.Calming.{standing, eventless}

-- ---- the session

none-own : (id : ℕ) (rs : List PlayerRecord) → list_any (of_voice id) rs ≡ false → list_any (waits id) rs ≡ false
unfolding waits
none-own id [] e = refl
none-own id (r ∷ rs) e = by-case (eqb r.voice id) e (none-own id rs)
  where
    by-case : (t : Bool) → t || list_any (of_voice id) rs ≡ false → (list_any (of_voice id) rs ≡ false → list_any (waits id) rs ≡ false)
        → (t && is_some r.off_at) || list_any (waits id) rs ≡ false
    by-case true e rest = absurd (true≢false e)
    by-case false e rest = rest e

-- ---- the voice

-- the voice without players, its places as they were
abbrev emptied : SampleVoice → SampleVoice
emptied v = with_players (record { players = v.players.players; count = 0 }) v

is-emptied : (v : SampleVoice) → v.players.count ≡ 0 → emptied v ≡ v
is-emptied v e = ap (λ n. with_players (record { players = v.players.players; count = n }) v) (sym e)

none-tuned : (x : Option Tune) (v : SampleVoice) → with_players (tuned_all x (emptied v).players) (emptied v) ≡ emptied v
unfolding tuned_all retuned_all
none-tuned None v = refl
none-tuned (Some t) v = refl

-- ---- the frames

part-back : (n : ℕ) (xs : List Float) → take 0 xs ++ (take (n - 0) (drop 0 xs) ++ drop (n - 0) (drop 0 xs)) ≡ xs
part-back n xs = take-append-drop (n - 0) xs

module _ (l : Lent) (s : Session) (v : SampleVoice) where
  abbrev quiet : Scene
  quiet = standing l s (emptied v)

  -- without players no frame changes
  none-rendered : (x : Sounds) (n : ℕ) → played_of l (rendered_to x n quiet) ≡ played_of l quiet
  unfolding rendered_to after_part played_all played_band reaped_both
  none-rendered x n = by-case (ltb 0 n)
    where
      by-case : (t : Bool) → played_of l (cond t (scene_after 0 n quiet (mixture_of x 0 n quiet)) quiet) ≡ played_of l quiet
      by-case true =
          let zs : List Float = quiet.left in
          ap (λ z. record { both = record { session = s; voice = emptied v }; left = amplified l.inputs.amp z; right = amplified l.inputs.amp (take 0 zs ++ (take (n - 0) (drop 0 zs) ++ drop (n - 0) (drop 0 zs))) }) (part-back n zs)
          ∙ ap (λ z. record { both = record { session = s; voice = emptied v }; left = amplified l.inputs.amp zs; right = amplified l.inputs.amp z }) (part-back n zs)
      by-case false = refl

-- ---- the block

-- session and voice as they were, and silence under the amp input
abbrev pub quiet_block : Lent → Session → SampleVoice → Played
quiet_block l s v = record {
  both = record { session = s; voice = v };
  left = amplified l.inputs.amp (replicate l.time.frames f0);
  right = amplified l.inputs.amp (replicate l.time.frames f0);
}

quiet-emptied : (l : Lent) (s : Session) (v : SampleVoice) → length s.players ≡ 512 → s.count ≤ 512 → list_any (of_voice v.voice) (view s) ≡ false
    → next_gate v.gate_prev l.inputs.gate 0 l.time.frames ≡ None → played_block l s (emptied v) ≡ quiet_block l s (emptied v)
quiet-emptied l s v size few own stays =
    eventless l s (emptied v) size few (none-own v.voice (view s) own) stays
    ∙ ap (λ (w : SampleVoice). played_of l (rendered_to (sounds_of (cues_of l)) l.time.frames (standing l s w))) (none-tuned (tune_of v.note l.inputs) v)
    ∙ none-rendered l s v (sounds_of (cues_of l)) l.time.frames

pub quiet_is : (l : Lent) (s : Session) (v : SampleVoice) → length s.players ≡ 512 → s.count ≤ 512 → v.players.count ≡ 0
    → list_any (of_voice v.voice) (view s) ≡ false
    → next_gate v.gate_prev l.inputs.gate 0 l.time.frames ≡ None → quiet_block l s v ≡ played_block l s v
quiet_is l s v size few silent own still =
    let e = is-emptied v silent in
    sym (ap (λ (w : SampleVoice). played_block l s w) (sym e) ∙ quiet-emptied l s v size few own still ∙ ap (quiet_block l s) e)
