-- What each way out of a call owes its contract. Assumes nothing.
use Rattle.std.specs.Prelude.{Ok, Err, is_ok, is_err}
use Prim.Native.Nat.{ℕ, ◌+◌, ◌-◌, ◌^◌, ◌<◌, ◌≤◌}
use mathlib.Core.Path.{◌≡◌, refl, sym, ap, ◌∙◌}
use mathlib.Core.Bool.{Bool, true, false, true≢false}
use mathlib.Core.List.{List, ◌++◌}
use native.Mathlib.Omega.{arith}
use lib.ListN.{length, take, drop, length-append, length-drop}
use lib.Ieee.{Float}
use borrow.Author.Tests.{le-leb, lt-leb}
use Rattle.program.specs.declared.bind.BoundProgram.{BoundProgram}
use Rattle.session.specs.State.{opened, ended_voice, closed_voice}
use Rattle.session.specs.declared.Opened.{Opened}
use Rattle.session.specs.declared.Session.{Session}
use Rattle.events.specs.declared.SampleVoice.{SampleVoice}
use Rattle.block.specs.Inputs.{Lent}
use Rattle.block.specs.Block.{Played, played_block, block_start}
use Rattle.causes.specs.Tests.{rate_fits, well_formed, state_fits, lent_fits, in_time}
use Rattle.causes.proofs.Passed.{with_outs, in_left, in_right}
use Rattle.voice.specs.Calls.{Answer, done, if_done, called, fresh_voice, make_answer, made, Program, ask_answer, is_finished, asked, end_answer, silenced, was_reset, was_closed, BlockLeft, block_answer, over_front, block_done, blocked}
use Rattle.voice.specs.declared.Refusal.TheVariants.{BadBlock, BadState, TooLate}
use Rattle.voice.specs.declared.Called.{Called}
use Rattle.voice.specs.declared.Closed.{Closed}

-- ---- making
module _ (rate : Float) (b : BoundProgram) (s : Session) where
  abbrev made_as : Answer → Called
  made_as a = called a (if_done a (opened s).session s) (fresh_voice (if_done a s.voices.next_voice 0) rate b)

  pub make-back : (a : Answer) → a ≡ make_answer rate s → is_err a ≡ true → (w : SampleVoice) → w ≡ fresh_voice 0 rate b → called a s w ≡ made rate b s
  unfolding made
  make-back (Ok x) e h w f = absurd (true≢false (sym h))
  make-back (Err r) e h w f = ap (called (Err r) s) f ∙ ap made_as e

  pub make-done : (a : Answer) → a ≡ make_answer rate s → is_err a ≡ false → (o : Opened) → o ≡ opened s → (w : SampleVoice) → w ≡ fresh_voice s.voices.next_voice rate b
      → called a o.session w ≡ made rate b s
  unfolding made
  make-done (Ok x) e h o g w f = ap (called done o.session) f ∙ ap (λ (z : Opened). called done z.session (fresh_voice s.voices.next_voice rate b)) g ∙ ap made_as e
  make-done (Err r) e h o g w f = absurd (true≢false h)

-- ---- asking, reset and close
module _ (k : Program) (s : Session) (v : SampleVoice) where
  pub ask-8 : state_fits s v k.words k.samples (length k.pcm) (length k.table) ≡ false → Err BadState ≡ asked k s v
  unfolding asked ask_answer
  ask-8 e = simp e

  pub ask-done : (b : Bool) → state_fits s v k.words k.samples (length k.pcm) (length k.table) ≡ true → b ≡ is_finished k.words v → Ok b ≡ asked k s v
  unfolding asked ask_answer
  ask-done b e f = simp (e, f)

module _ (s : Session) (v : SampleVoice) where
  abbrev reset_as : Answer → Called
  reset_as a = called a (if_done a (ended_voice v.voice v.gate_held s) s) (if_done a (silenced v) v)

  abbrev closed_as : Answer → Closed
  closed_as a = record { answer = a; session = if_done a (closed_voice v.voice v.gate_held s) s }

  module _ (a : Answer) (told : a ≡ end_answer s v) where
    pub reset-back : is_err a ≡ true → called a s v ≡ was_reset s v
    unfolding was_reset
    reset-back h = by-case a told h
      where
        by-case : (x : Answer) → x ≡ end_answer s v → is_err x ≡ true → called x s v ≡ reset_as (end_answer s v)
        by-case (Ok u) e h = absurd (true≢false (sym h))
        by-case (Err r) e h = ap reset_as e

    pub reset-done : is_err a ≡ false → (t : Session) → t ≡ ended_voice v.voice v.gate_held s → (w : SampleVoice) → w ≡ silenced v → called a t w ≡ was_reset s v
    unfolding was_reset
    reset-done h t f w g = by-case a told h
      where
        by-case : (x : Answer) → x ≡ end_answer s v → is_err x ≡ false → called x t w ≡ reset_as (end_answer s v)
        by-case (Ok u) e h = ap (called done t) g ∙ ap (λ (y : Session). called done y (silenced v)) f ∙ ap reset_as e
        by-case (Err r) e h = absurd (true≢false h)

    pub close-back : is_ok a ≡ false → record { answer = a; session = s } ≡ was_closed s v
    unfolding was_closed
    close-back h = by-case a told h
      where
        by-case : (x : Answer) → x ≡ end_answer s v → is_ok x ≡ false → record { answer = x; session = s } ≡ closed_as (end_answer s v)
        by-case (Ok u) e h = absurd (true≢false h)
        by-case (Err r) e h = ap closed_as e

    pub close-done : is_ok a ≡ true → (t : Session) → t ≡ closed_voice v.voice v.gate_held s → record { answer = a; session = t } ≡ was_closed s v
    unfolding was_closed
    close-done h t f = by-case a told h
      where
        closes : Session → Closed
        closes x = record { answer = done; session = x }

        by-case : (x : Answer) → x ≡ end_answer s v → is_ok x ≡ true → record { answer = x; session = t } ≡ closed_as (end_answer s v)
        by-case (Ok u) e h = ap closes f ∙ ap closed_as e
        by-case (Err r) e h = absurd (true≢false (sym h))

-- ---- a block
module _ (l : Lent) (s : Session) (v : SampleVoice) where
  abbrev pub back : Called → BlockLeft
  back c = record { called = c; left = l.left; right = l.right }

  abbrev block_as : Answer → BlockLeft
  block_as a = if_done a (block_done l s v) (back (called a s v))

  block-as : (a : Answer) → block_answer l s v ≡ a → block_as a ≡ blocked l s v
  unfolding blocked
  block-as a e = ap block_as (sym e)

  pub block-7 : (c : Called) → c ≡ called (Err BadBlock) s v → lent_fits l ≡ false → back c ≡ blocked l s v
  unfolding block_answer
  block-7 c f e = ap back f ∙ block-as (Err BadBlock) (simp e)

  module _ (fits : lent_fits l ≡ true) where
    pub block-8 : (c : Called) → c ≡ called (Err BadState) s v → state_fits s v l.words l.samples (length l.pcm) (length l.table) ≡ false → back c ≡ blocked l s v
    unfolding block_answer
    block-8 c f e = ap back f ∙ block-as (Err BadState) (simp (fits, e))

    module _ (state : state_fits s v l.words l.samples (length l.pcm) (length l.table) ≡ true) where
      pub block-9 : (c : Called) → c ≡ called (Err TooLate) s v → in_time l.time.offset s.event_serial ≡ false → back c ≡ blocked l s v
      unfolding block_answer
      block-9 c f e = ap back f ∙ block-as (Err TooLate) (simp (fits, state, e))

      -- the block as played, in front of what is left of the outputs
      pub block-done : in_time l.time.offset s.event_serial ≡ true → (p : Played) → p ≡ played_block l s v
          → (left right : List Float) → left ≡ over_front p.left l.left → right ≡ over_front p.right l.right
          → record { called = called done p.both.session p.both.voice; left = left; right = right } ≡ blocked l s v
      unfolding block_answer block_done
      block-done e p f left right g h = ap (outs left) h ∙ ap (λ (x : List Float). outs x (over_front p.right l.right)) g ∙ ap left_as f ∙ block-as done (simp (fits, state, e))
        where
          outs : List Float → List Float → BlockLeft
          outs x y = record { called = called done p.both.session p.both.voice; left = x; right = y }

          left_as : Played → BlockLeft
          left_as q = record {
            called = called done q.both.session q.both.voice;
            left = over_front q.left l.left;
            right = over_front q.right l.right;
          }

-- a block plays the same whatever its outputs held
pub same-played : (l : Lent) (s : Session) (v : SampleVoice) (left right : List Float) → played_block (with_outs l left right) s v ≡ played_block l s v
unfolding played_block block_start
same-played l s v left right = refl

-- the first n frames of an output as they come back: the block's frames in front of the rest
pub front-is : (n : ℕ) (xs ys : List Float) → n ≤ length xs → length (take 0 xs ++ (ys ++ drop (n - 0) (drop 0 xs))) ≡ length xs
    → take 0 xs ++ (ys ++ drop (n - 0) (drop 0 xs)) ≡ over_front ys xs
front-is n xs ys h e =
    let a : length (ys ++ drop (n - 0) xs) ≡ length ys + length (drop (n - 0) xs) = length-append ys (drop (n - 0) xs) in
    let d : length (drop (n - 0) xs) ≡ length xs - (n - 0) = length-drop (n - 0) xs in
    let f : length (ys ++ drop (n - 0) xs) ≡ length xs = e in
    let k : n - 0 ≡ length ys = omega arith in
    ap (λ (m : ℕ). ys ++ drop m xs) k

module _ (l : Lent) (s : Session) (v : SampleVoice) where
  -- what was played into the first frames of both outputs, and the outputs as the call leaves them
  pub block_out : lent_fits l ≡ true
      → state_fits s v l.words l.samples (length l.pcm) (length l.table) ≡ true → in_time l.time.offset s.event_serial ≡ true
      → (r : Called) (p : Played) → r ≡ called done p.both.session p.both.voice → (a b : List Float) → p ≡ played_block (with_outs l a b) s v
      → length (take 0 l.left ++ (p.left ++ drop (l.time.frames - 0) (drop 0 l.left))) ≡ length l.left
      → length (take 0 l.right ++ (p.right ++ drop (l.time.frames - 0) (drop 0 l.right))) ≡ length l.right
      → record {
        called = r;
        left = take 0 l.left ++ (p.left ++ drop (l.time.frames - 0) (drop 0 l.left));
        right = take 0 l.right ++ (p.right ++ drop (l.time.frames - 0) (drop 0 l.right));
      } ≡ blocked l s v
  block_out fits state timely r p er a b e f g =
      ap (λ (x : Called). record {
        called = x;
        left = take 0 l.left ++ (p.left ++ drop (l.time.frames - 0) (drop 0 l.left));
        right = take 0 l.right ++ (p.right ++ drop (l.time.frames - 0) (drop 0 l.right));
      }) er
      ∙ block-done l s v fits state timely p (e ∙ same-played l s v a b) _ _ (front-is l.time.frames l.left p.left (in_left l s v fits) f)
      (front-is l.time.frames l.right p.right (in_right l s v fits) g)
