-- A block's start, and the whole of it. Assumes nothing.
use Rattle.std.proofs.Common.{None, Option, Some}
use Prim.Native.Nat.{ℕ, ◌≤◌}
use mathlib.Core.Path.{◌≡◌, sym, ap, ◌∙◌}
use mathlib.Core.Bool.{Bool}
use mathlib.Core.List.{List}
use native.Mathlib.Omega.{arith}
use lib.ListN.{length, take, drop, replicate, length-append, length-drop, length-replicate, length-take}
use lib.Seq.{length-take-le}
use lib.Ieee.{Float}
use Rattle.exact.specs.Single.{f0}
use Rattle.session.specs.Offs.{no_off, offs_of, off_times, collected_offs}
use Rattle.session.specs.State.{view}
use Rattle.session.specs.declared.Collected.{Collected}
use Rattle.session.specs.declared.Off.{Off}
use Rattle.session.specs.declared.Session.{Session}
use Rattle.note.specs.Note.{note_of}
use Rattle.note.specs.declared.NoteState.{NoteState}
use Rattle.players.specs.Seats.{PlayersOk, retuned_all}
use Rattle.players.specs.declared.Players.{Players}
use Rattle.events.specs.Voice.{with_players}
use Rattle.events.specs.declared.SampleVoice.{SampleVoice}
use Rattle.block.specs.declared.Playing.{Playing}
use Rattle.block.specs.Inputs.{Signals, Lent, cues_of, Reaches, input_at, bend_of}
use Rattle.block.specs.Render.{Scene, both_of}
use Rattle.block.specs.Block.{retuned_for, retuned_voice, started_block, block_start, sounded_from, amplified, Played, played_of, played_block}
use Rattle.block.proofs.Framing.{reaches}
use Rattle.block.proofs.Lasting.{start-lasts}
use Rattle.block.specs.Ready.{VoiceOk, OffsOk, PlayingOk, Covers, CuesOk, Ready}

-- ---- the start

pub players-of : (w v : SampleVoice) (ps : Players) → w ≡ with_players ps v → PlayersOk ps → PlayersOk w.players
players-of w v ps e h = rw e h

module _ (ins : Signals) (v : SampleVoice) where
  module _ (s : Session) where
    pub start_is : (o : Collected) → o ≡ collected_offs v.voice s → (w : SampleVoice) → w ≡ retuned_voice ins v
        → ◌≡◌ {A = Playing} (record { session = o.session; voice = w; offs = o.offs; from = 0 }) (started_block ins s v)
    unfolding started_block
    start_is o e w d =
        ap (λ (x : Collected). record { session = x.session; voice = w; offs = x.offs; from = 0 }) e
        ∙ ap (λ (x : SampleVoice). record { session = (collected_offs v.voice s).session; voice = x; offs = (collected_offs v.voice s).offs; from = 0 }) d

    offs-ok : (os : List Off) → OffsOk (offs_of os)
    offs-ok os =
        let n : length (take 32 os) ≤ 32 = omega (arith, length-take 32 os) in
        record {
          few = n;
          size =
              length-append (take 32 os) (drop (length (take 32 os)) (replicate 32 no_off))
              ∙ omega (arith, length-drop (length (take 32 os)) (replicate 32 no_off), length-replicate 32 no_off);
        }

    offs-started : OffsOk (started_block ins s v).offs
    unfolding started_block collected_offs
    offs-started = offs-ok (off_times v.voice (view s))

    pub started-from : (p : Playing) → p ≡ started_block ins s v → p.from ≡ 0
    unfolding started_block
    started-from p e = ap (λ (x : Playing). x.from) e

    pub started-ok : (ws : List ℕ) → VoiceOk ws v → (p : Playing) → p ≡ started_block ins s v → PlayersOk p.voice.players → PlayingOk ws p
    started-ok ws ok p e h = record {
      voice = record {
        players = h;
        bindable = ok.bindable;
        regions = rw (ap (λ (x : Playing). x.voice.program) e ∙ (start-lasts ins s v).program) ok.regions;
      };
      offs = rw (ap (λ (x : Playing). x.offs) e) offs-started;
    }

-- ---- what it leans on

pub covers-as : (input : Option (List Float)) (m n : ℕ) → m ≡ n → Covers input n → Covers input m
covers-as input m n e h = rw e h

module _ (l : Lent) (v : SampleVoice) (r : Ready l v) where
  pub cues-ok : CuesOk (cues_of l)
  cues-ok = record {
    some = r.some;
    most = r.most;
    offset = r.offset;
    table = length-take-le 8194 l.table r.table;
    freq = r.freq;
    gate = r.gate;
    vel = r.vel;
    seed = r.seed;
    quality = r.quality;
  }

  pub freq-there : Reaches l.inputs.freq 0
  freq-there = reaches l.inputs.freq r.freq r.some

  pub bend-there : Reaches l.inputs.bend 0
  bend-there = reaches l.inputs.bend r.bend r.some

-- ---- the whole

pub played-is : (l : Lent) (s : Session) (v : SampleVoice) (xs ys : List Float) → xs ≡ replicate l.time.frames f0 → ys ≡ replicate l.time.frames f0
    → (p : Playing) → p ≡ started_block l.inputs s v
    → (sc : Scene) → sc ≡ sounded_from (cues_of l) (record { playing = p; left = xs; right = ys })
    → (ls rs : List Float) → ls ≡ amplified l.inputs.amp sc.left → rs ≡ amplified l.inputs.amp sc.right
    → ◌≡◌ {A = Played} (record { both = both_of sc.playing; left = ls; right = rs }) (played_block l s v)
unfolding played_block block_start
played-is l s v xs ys ex ey p ep sc e ls rs el er =
    let n : ℕ = l.time.frames in
    let q : Playing = started_block l.inputs s v in
    let start : ◌≡◌ {A = Scene} (record { playing = p; left = xs; right = ys }) (block_start l s v)
    = ap (λ (x : Playing). record { playing = x; left = xs; right = ys }) ep ∙ ap (λ (x : List Float). record { playing = q; left = x; right = ys }) ex
    ∙ ap (λ (x : List Float). record { playing = q; left = replicate n f0; right = x }) ey in
    ap (λ (x : List Float). record { both = both_of sc.playing; left = x; right = rs }) el
    ∙ ap (λ (x : List Float). record { both = both_of sc.playing; left = amplified l.inputs.amp sc.left; right = x }) er
    ∙ ap (played_of l) (e ∙ ap (sounded_from (cues_of l)) start)
