-- From event to event, and the outputs' loops. Assumes nothing.
use Rattle.std.proofs.lemmas.Option.{IfSome_then}
use Rattle.std.specs.Prelude.{cond, Option}
use Prim.Native.Nat.{ℕ, zero, suc, ◌+◌, ◌-◌, ◌<◌, ◌≤◌, ◌^◌}
use mathlib.Core.Path.{◌≡◌, refl, sym, ap, ◌∙◌}
use mathlib.Core.Bool.{Bool, true, false}
use mathlib.Core.List.{List, [], ◌∷◌, ◌++◌, foldl, append-nil}
use native.Mathlib.Omega.{arith}
use native.Mathlib.Nat.{lt_of_lt_of_le}
use native.Mathlib.Numerals.{add-one}
use lib.ListN.{length, take, drop, get_or, set, drop_of_length-le}
use lib.Seq.{take_all}
use lib.Ieee.{Float}
use Rattle.exact.specs.Single.{◌⊗◌}
use Rattle.std.specs.List.{range_with_len}
use Rattle.note.specs.declared.Strike.{Strike}
use Rattle.block.specs.declared.Playing.{Playing}
use Rattle.block.specs.Inputs.{Cues, Reaches, Struck, kit_of, sounds_of, gate_at, strike_at}
use Rattle.block.specs.Render.{Scene, rendered_to}
use Rattle.block.specs.Block.{events_at, turned_scene, event_on, event_turn, frame_turn, frames_turned, sounded_from, times_each}
use Rattle.block.specs.Next.{next_event}
use Rattle.block.specs.Ready.{PlayingOk, CuesOk, Covers}
use Rattle.block.proofs.Firsts.{skip-to, first-most, first-true}
use Rattle.block.proofs.Scenes.{no_frames}

-- ---- one event

pub turn-scene : (c : Cues) (i : ℕ) (sc y : Scene) → y ≡ rendered_to (sounds_of c) i sc → (x : Strike) → x ≡ strike_at c i → (g : Bool)
    → g ≡ gate_at c.inputs.gate i → (r : Playing) → r ≡ events_at (kit_of c) c.time i x g y.playing
    → turned_scene r y ≡ event_turn c i sc
unfolding event_turn
turn-scene c i sc y e x ex g eg r er =
    ap (λ (q : Playing). turned_scene q y) er
    ∙ ap (λ (s : Strike). turned_scene (events_at (kit_of c) c.time i s g y.playing) y) ex
    ∙ ap (λ (b : Bool). turned_scene (events_at (kit_of c) c.time i (strike_at c i) b y.playing) y) eg
    ∙ ap (λ (z : Scene). turned_scene (events_at (kit_of c) c.time i (strike_at c i) (gate_at c.inputs.gate i) z.playing) z) e

pub still : (c : Cues) (sc : Scene) (k : ℕ) → event_on c sc k ≡ false → frame_turn c sc k ≡ sc
unfolding frame_turn
still c sc k e = ap (λ t. cond t (event_turn c k sc) sc) e

acts : (c : Cues) (sc : Scene) (k : ℕ) → event_on c sc k ≡ true → frame_turn c sc k ≡ event_turn c k sc
unfolding frame_turn
acts c sc k e = ap (λ t. cond t (event_turn c k sc) sc) e

-- ---- the loop

-- the first event from `from` on
abbrev pub upcoming : Cues → Scene → ℕ → ℕ
upcoming c sc from = next_event c.time sc.playing.offs sc.playing.voice.gate_prev c.inputs.gate from

-- the frames from i on
abbrev turned_from : Cues → Scene → ℕ → Scene
turned_from c sc i = foldl (frame_turn c) sc (range_with_len i (c.time.frames - i))

-- where the loop stands: the frames before the event at ev have been turned, and none behind it has sounded
pub record Reached (c : Cues) (first sc : Scene) (ev : ℕ) : Type 0 where
  pub ok : PlayingOk c.words sc.playing
  pub left : length sc.left ≡ c.time.frames
  pub right : length sc.right ≡ c.time.frames
  pub behind : sc.playing.from ≤ ev
  pub within : ev ≤ c.time.frames
  pub there : ev < c.time.frames → event_on c sc ev ≡ true
  pub rest : sounded_from c first ≡ rendered_to (sounds_of c) c.time.frames (turned_from c sc ev)

module _ (c : Cues) (sc : Scene) (from ev : ℕ) (at : ev ≡ upcoming c sc from) where
  pub beyond : from ≤ ev
  unfolding next_event
  beyond = omega (arith, at)

  module _ (low : from ≤ c.time.frames) where
    not-past : ev ≤ c.time.frames
    unfolding next_event
    not-past = rw at (first-most (event_on c sc) from c.time.frames low)

    is-event : ev < c.time.frames → event_on c sc ev ≡ true
    unfolding next_event
    is-event h = ap (event_on c sc) at ∙ first-true (event_on c sc) from c.time.frames (rw at at h)

    skipped : turned_from c sc from ≡ turned_from c sc ev
    unfolding next_event
    skipped = skip-to (frame_turn c) (event_on c) sc (still c sc) from c.time.frames ev low at

pub reach-first : (c : Cues) (sc : Scene) (ev : ℕ) → ev ≡ upcoming c sc 0 → PlayingOk c.words sc.playing → sc.playing.from ≡ 0
    → length sc.left ≡ c.time.frames → length sc.right ≡ c.time.frames → Reached c sc sc ev
unfolding sounded_from frames_turned
reach-first c sc ev at ok none l r =
    let z : 0 ≤ c.time.frames = omega arith in
    let n : c.time.frames ≡ c.time.frames - 0 = omega arith in
    record {
      ok = ok;
      left = l;
      right = r;
      behind = omega arith;
      within = not-past c sc 0 ev at z;
      there = is-event c sc 0 ev at z;
      rest = ap (rendered_to (sounds_of c) c.time.frames) (ap (λ k. foldl (frame_turn c) sc (range_with_len 0 k)) n ∙ skipped c sc 0 ev at z);
    }

none_left : (c : Cues) (sc : Scene) (ev : ℕ) → c.time.frames ≤ ev → turned_from c sc ev ≡ sc
none_left c sc ev h = let n : c.time.frames - ev ≡ zero = omega arith in ap (λ k. foldl (frame_turn c) sc (range_with_len ev k)) n

module _ (c : Cues) (first sc : Scene) (ev : ℕ) (so_far : Reached c first sc ev) where
  -- all frames have sounded
  pub reach-end : c.time.frames ≤ sc.playing.from → sc ≡ sounded_from c first
  reach-end h =
      let n : c.time.frames ≤ ev = omega (arith, so_far.behind) in
      no_frames (sounds_of c) c.time.frames sc h ∙ sym (so_far.rest ∙ ap (rendered_to (sounds_of c) c.time.frames) (none_left c sc ev n))

  module _ (y : Scene) (ok : PlayingOk c.words y.playing) (l : length y.left ≡ c.time.frames) (r : length y.right ≡ c.time.frames)
      (sounded : y.playing.from ≡ ev) where
    -- behind the last event the frames only sound
    pub reach-last : c.time.frames ≤ ev → y ≡ rendered_to (sounds_of c) ev sc → Reached c first y ev
    reach-last h e =
        let n : ev ≡ c.time.frames = omega (arith, so_far.within) in
        let m : c.time.frames ≤ y.playing.from = omega arith in
        record {
          ok = ok;
          left = l;
          right = r;
          behind = omega arith;
          within = so_far.within;
          there = λ k. absurd (omega (arith, k, h));
          rest =
              so_far.rest ∙ ap (rendered_to (sounds_of c) c.time.frames) (none_left c sc ev h)
              ∙ sym (e ∙ ap (λ k. rendered_to (sounds_of c) k sc) n)
              ∙ no_frames (sounds_of c) c.time.frames y m
              ∙ ap (rendered_to (sounds_of c) c.time.frames) (sym (none_left c y ev h));
        }

    pub reach-next : ev < c.time.frames → y ≡ event_turn c ev sc → (next : ℕ) → next ≡ upcoming c y (ev + 1) → Reached c first y next
    reach-next h e next at =
        let z : ev + 1 ≤ c.time.frames = omega arith in
        let n : c.time.frames - ev ≡ suc (c.time.frames - (ev + 1)) = omega arith in
        record {
          ok = ok;
          left = l;
          right = r;
          behind = omega (arith, beyond c y (ev + 1) next at);
          within = not-past c y (ev + 1) next at z;
          there = is-event c y (ev + 1) next at z;
          rest =
              so_far.rest
              ∙ ap (rendered_to (sounds_of c) c.time.frames)
              (ap (λ k. foldl (frame_turn c) sc (range_with_len ev k)) n
              ∙ ap (λ (s : Scene). foldl (frame_turn c) s (range_with_len (ev + 1) (c.time.frames - (ev + 1)))) (acts c sc ev (so_far.there h) ∙ sym e)
              ∙ skipped c y (ev + 1) next at z);
        }

-- ---- the outputs

-- each frame by the input's, up to i
abbrev pub times_to : ℕ → List Float → List Float → List Float
times_to i xs ys = times_each (take i xs) ys ++ drop i xs

times-suc : (xs ys : List Float) (i : ℕ) (d e : Float) → i < length xs → i < length ys
    → set (times_to i xs ys) i (get_or (times_to i xs ys) i d ⊗ get_or ys i e) ≡ times_to (suc i) xs ys
times-suc [] ys i d e h k = absurd (omega (arith, h))
times-suc (x ∷ xs) [] i d e h k = absurd (omega (arith, k))
times-suc (x ∷ xs) (y ∷ ys) zero d e h k = refl
times-suc (x ∷ xs) (y ∷ ys) (suc i) d e h k = ap (λ l. (x ⊗ y) ∷ l) (times-suc xs ys i d e (omega (arith, h)) (omega (arith, k)))

pub times-step : (xs ys zs : List Float) (i : ℕ) (d e : Float) → zs ≡ times_to i xs ys → i < length xs → i < length ys
    → set zs i (get_or zs i d ⊗ get_or ys i e) ≡ times_to (i + 1) xs ys
times-step xs ys zs i d e at h k = ap (λ l. set l i (get_or l i d ⊗ get_or ys i e)) at ∙ times-suc xs ys i d e h k ∙ ap (λ n. times_to n xs ys) (sym (add-one i))

pub times-done : (xs ys zs : List Float) (i : ℕ) → zs ≡ times_to i xs ys → length xs ≤ i → zs ≡ times_each xs ys
times-done xs ys zs i e h =
    e ∙ ap (λ l. times_each l ys ++ drop i xs) (take_all i xs h) ∙ ap (λ l. times_each xs ys ++ l) (drop_of_length-le xs {i = i} h)
    ∙ append-nil (times_each xs ys)

-- ---- what an event reads is there

pub reaches : {i n : ℕ} (input : Option (List Float)) → Covers input n → i < n → Reaches input i
reaches input k h = IfSome_then input k (λ xs m. lt_of_lt_of_le h m)

module _ (c : Cues) (ok : CuesOk c) (i : ℕ) (h : i < c.time.frames) where
  pub strike-there : Struck c.inputs i
  strike-there = record {
    freq = reaches c.inputs.freq ok.freq h;
    vel = reaches c.inputs.vel ok.vel h;
    seed = reaches c.inputs.seed ok.seed h;
    quality = reaches c.inputs.quality ok.quality h;
  }

  pub gate-there : Reaches c.inputs.gate i
  gate-there = reaches c.inputs.gate ok.gate h

  pub time-fits : c.time.offset + i < 2 ^ 64
  time-fits = omega (arith, ok.offset, ok.most)
