-- A part of a block: the frames up to an event, then its off marks and an edge of the gate, each only where it happens. Assumes nothing.
use Rattle.std.specs.List.{list_any, position}
use Rattle.std.specs.Prelude.{cond, is_some, None, Option, Some}
use Prim.Native.Nat.{ℕ, zero, suc, ◌+◌, ◌-◌, ◌<◌, ◌≤◌}
use mathlib.Core.Path.{◌≡◌, refl, sym, ap, ◌∙◌}
use mathlib.Core.Bool.{Bool, true, false, not, ◌||◌, true≢false}
use mathlib.Core.List.{List, ◌++◌}
use native.Mathlib.Omega.{arith}
use lib.ListN.{length, take, drop, length-append, length-take, length-drop}
use lib.Dec.{eqb}
use lib.Ieee.{Float}
use borrow.Author.Tests.{eqb-true}
use Rattle.session.specs.declared.Offs.{Offs}
use Rattle.session.specs.declared.Session.{Session}
use Rattle.note.specs.declared.Strike.{Strike}
use Rattle.players.specs.Mix.{Mixture, tuned_all, played_all}
use Rattle.players.specs.Seats.{sounding, is_over, PlayersOk}
use Rattle.events.specs.Voice.{Kit, with_players}
use Rattle.events.specs.declared.Both.{Both}
use Rattle.events.specs.declared.SampleVoice.{SampleVoice}
use Rattle.block.specs.declared.BlockTime.{BlockTime}
use Rattle.block.specs.declared.Playing.{Playing}
use Rattle.block.specs.Inputs.{Cues, kit_of, sounds_of, gate_at, strike_at}
use Rattle.block.specs.Render.{Scene, both_of, with_both, put_at, part, after_part, mixture_of, rendered_to}
use Rattle.block.specs.Block.{off_list, falls_on, off_turn, off_turns, turns, edge_turned, gate_turn, events_at, turned_scene, event_turn}
use Rattle.block.specs.Calm.{settled}
use Rattle.block.specs.Ready.{VoiceOk, PlayingOk}
use Rattle.block.proofs.Calming.{calm-stays}
use Rattle.block.proofs.Framing.{turn-scene}
use Rattle.block.proofs.Scenes.{no_frames, some-frames, rendered-ok, turns-over, gate-still, gate-turned}

abbrev pub under : Session → SampleVoice → Offs → ℕ → Playing
under s v o a = record { session = s; voice = v; offs = o; from = a }

abbrev pub on_stage : Playing → List Float → List Float → Scene
on_stage p ls rs = record { playing = p; left = ls; right = rs }

pub same-under : {s s' : Session} → s ≡ s' → {v v' : SampleVoice} → v ≡ v' → {o o' : Offs} → o ≡ o' → {a a' : ℕ} → a ≡ a' → under s v o a ≡ under s' v' o' a'
same-under d e f g = cc

pub same-stage : {ls ls' : List Float} → ls ≡ ls' → {rs rs' : List Float} → rs ≡ rs' → {p p' : Playing} → p ≡ p' → on_stage p ls rs ≡ on_stage p' ls' rs'
same-stage d e f = cc

-- ---- lengths

pub part_length : (a b : ℕ) (xs ys : List Float) → length ys ≡ length xs → length (part a b ys) ≡ length (part a b xs)
part_length a b xs ys e = omega (arith, e, length-take (b - a) (drop a xs), length-drop a xs, length-take (b - a) (drop a ys), length-drop a ys)

pub put-length : (a b : ℕ) (xs ys : List Float) → length ys ≡ length (part a b xs) → length (put_at a b xs ys) ≡ length xs
put-length a b xs ys e =
    length-append (take a xs) (ys ++ drop (b - a) (drop a xs))
    ∙ omega (arith, e, length-append ys (drop (b - a) (drop a xs)), length-take a xs, length-take (b - a) (drop a xs), length-drop (b - a) (drop a xs), length-drop a xs)

-- ---- the frames up to the event at ev

pub record Heard (c : Cues) (sc : Scene) (ev : ℕ) (y : Scene) : Type 0 where
  pub is : y ≡ rendered_to (sounds_of c) ev sc
  pub at : y.playing.from ≡ ev
  pub ok : PlayingOk c.words y.playing
  pub left : length y.left ≡ c.time.frames
  pub right : length y.right ≡ c.time.frames

pub heard-as : {c : Cues} {sc : Scene} {ev : ℕ} {y z : Scene} → y ≡ z → Heard c sc ev z → Heard c sc ev y
heard-as e h = rw e h

module _ (c : Cues) (sc : Scene) (ev : ℕ) (ok : PlayingOk c.words sc.playing) (l : length sc.left ≡ c.time.frames) (r : length sc.right ≡ c.time.frames) where
  -- none of them
  pub heard-none : sc.playing.from ≤ ev → ev ≤ sc.playing.from → Heard c sc ev sc
  heard-none a b = record { is = no_frames (sounds_of c) ev sc b; at = omega arith; ok = ok; left = l; right = r }

  module _ (some : sc.playing.from < ev) (m : Mixture)
      (told : m ≡ played_all (sounds_of c) (tuned_all None sc.playing.voice.players) (part sc.playing.from ev sc.left) (part sc.playing.from ev sc.right))
      (same_left : length m.left ≡ length (part sc.playing.from ev sc.left)) (same-right : length m.right ≡ length (part sc.playing.from ev sc.right)) where
    as-tuned : m ≡ mixture_of (sounds_of c) sc.playing.from ev sc
    unfolding tuned_all
    as-tuned = told

    -- the voice with what its players became
    abbrev played : SampleVoice
    played = with_players m.mixed.players sc.playing.voice

    abbrev sounded : Both → Scene
    sounded b = record {
      playing = under b.session b.voice sc.playing.offs ev;
      left = put_at sc.playing.from ev sc.left m.left;
      right = put_at sc.playing.from ev sc.right m.right;
    }

    -- ended data are marked, finished players leave
    settled_is : (b : Both) → b ≡ settled m.mixed.ended (record { session = sc.playing.session; voice = played }) → sounded b ≡ rendered_to (sounds_of c) ev sc
    unfolding settled after_part
    settled_is b e =
        some-frames (sounds_of c) ev sc some m as-tuned (under b.session b.voice sc.playing.offs ev)
        (ap (λ (z : Both). under z.session z.voice sc.playing.offs ev) e)

    pub heard-settled : (b : Both) → b ≡ settled m.mixed.ended (record { session = sc.playing.session; voice = played }) → PlayersOk b.voice.players
        → Heard c sc ev (sounded b)
    heard-settled b e h = record {
      is = settled_is b e;
      at = refl;
      ok = rendered-ok (sounds_of c) ev sc c.words ok (sounded b) (settled_is b e) h;
      left = put-length sc.playing.from ev sc.left m.left same_left ∙ l;
      right = put-length sc.playing.from ev sc.right m.right same-right ∙ r;
    }

    -- nothing ended and nobody is done: there is nothing to settle
    pub heard-calm : (over b : Bool) → over ≡ list_any is_over (sounding m.mixed.players) → b ≡ over || not (eqb m.mixed.ended.count 0) → b ≡ false
        → PlayersOk m.mixed.players → Heard c sc ev (sounded (record { session = sc.playing.session; voice = played }))
    heard-calm over b e f none h =
        let quiet : over || not (eqb m.mixed.ended.count 0) ≡ false = sym f ∙ none in
        let w = by-case over (eqb m.mixed.ended.count 0) quiet in
        heard-settled (record { session = sc.playing.session; voice = played })
        (sym (calm-stays m.mixed.ended sc.playing.session played h (eqb-true m.mixed.ended.count 0 w.1) (sym e ∙ w.0))) h
      where
        by-case : (s t : Bool) → s || not t ≡ false → (s ≡ false) × (t ≡ true)
        by-case true t g = absurd (true≢false g)
        by-case false true g = (refl, refl)
        by-case false false g = absurd (true≢false g)

-- ---- the events on a frame

module _ (k : Kit) (t : BlockTime) (i : ℕ) where
  turns-from : (m : ℕ) (p : Playing) → (off_turns k t i m p).from ≡ p.from
  unfolding off_turns off_turn
  turns-from zero p = refl
  turns-from (suc m) p = by-case (list_any (falls_on t i) (off_list p.offs)) (turns-from m (off_turn k t i p)) where
    by-case : (b : Bool) → (off_turns k t i m (off_turn k t i p)).from ≡ p.from → (cond b (off_turns k t i m (off_turn k t i p)) p).from ≡ p.from
    by-case true h = h
    by-case false h = refl

  -- off times act; the block has sounded as far as before
  pub offs-acted : (p r : Playing) → r ≡ off_turns k t i p.offs.count p → under r.session r.voice r.offs p.from ≡ off_turns k t i p.offs.count p
  offs-acted p r e = ap (under r.session r.voice r.offs) (sym (ap (λ (y : Playing). y.from) e ∙ turns-from p.offs.count p)) ∙ e

not-some : (o : Option ℕ) → is_some o ≡ false → o ≡ None
not-some None h = refl
not-some (Some j) h = absurd (true≢false h)

-- the off times on frame i have acted
pub record Marked (c : Cues) (i : ℕ) (p q : Playing) : Type 0 where
  pub is : q ≡ off_turns (kit_of c) c.time i p.offs.count p
  pub ok : PlayingOk c.words q

pub marked-as : {c : Cues} {i : ℕ} {p q r : Playing} → q ≡ r → Marked c i p r → Marked c i p q
marked-as e h = rw e h

module _ (c : Cues) (i : ℕ) (p : Playing) where
  pub marked-some : (r : Playing) → r ≡ off_turns (kit_of c) c.time i p.offs.count p → PlayingOk c.words r
      → Marked c i p (under r.session r.voice r.offs p.from)
  marked-some r e h = record { is = offs-acted (kit_of c) c.time i p r e; ok = record { voice = h.voice; offs = h.offs } }

  pub marked-none : PlayingOk c.words p → (o : Option ℕ) → o ≡ position (falls_on c.time i) (off_list p.offs) → is_some o ≡ false → Marked c i p p
  marked-none ok o told h = record { is = sym (turns-over (kit_of c) c.time i p ok.offs (sym told ∙ not-some o h)); ok = ok }

-- and then an edge of the gate
pub record Acted (c : Cues) (i : ℕ) (p q : Playing) : Type 0 where
  pub is : q ≡ events_at (kit_of c) c.time i (strike_at c i) (gate_at c.inputs.gate i) p
  pub ok : PlayingOk c.words q

pub acted-as : {c : Cues} {i : ℕ} {p q r : Playing} → q ≡ r → Acted c i p r → Acted c i p q
acted-as e h = rw e h

module _ (c : Cues) (i : ℕ) (p q : Playing) (marked : Marked c i p q) (g b : Bool) (up : g ≡ gate_at c.inputs.gate i)
    (told : b ≡ turns q.voice.gate_prev g) where
  gate-is : (r : Playing) → r ≡ gate_turn (kit_of c) (strike_at c i) g q → r ≡ events_at (kit_of c) c.time i (strike_at c i) (gate_at c.inputs.gate i) p
  unfolding events_at
  gate-is r e =
      e ∙ ap (λ (h : Bool). gate_turn (kit_of c) (strike_at c i) h q) up
      ∙ ap (gate_turn (kit_of c) (strike_at c i) (gate_at c.inputs.gate i)) marked.is

  pub acted-still : b ≡ false → Acted c i p q
  acted-still e = record { is = gate-is q (gate-still (kit_of c) (strike_at c i) g q b told e); ok = marked.ok }

  pub acted-edge : b ≡ true → (x : Strike) → x ≡ strike_at c i → (r : Both) → r ≡ edge_turned (kit_of c) x g (both_of q) → VoiceOk c.words r.voice
      → Acted c i p (with_both r q)
  acted-edge e x struck r d h = record {
    is = gate-is (with_both r q) (gate-turned (kit_of c) (strike_at c i) g q b told e r (d ∙ ap (λ (y : Strike). edge_turned (kit_of c) y g (both_of q)) struck));
    ok = record { voice = h; offs = marked.ok.offs };
  }

pub acted-scene : (c : Cues) (sc : Scene) (i : ℕ) (y : Scene) → Heard c sc i y → (p : Playing) → Acted c i y.playing p → turned_scene p y ≡ event_turn c i sc
acted-scene c sc i y heard p acted = turn-scene c i sc y heard.is (strike_at c i) refl (gate_at c.inputs.gate i) refl p acted.is
