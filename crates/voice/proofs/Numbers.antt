-- The number of what each call answers is 01's number for what it was handed. Assumes nothing.
use Rattle.std.specs.Result.{result_and}
use Rattle.std.specs.Prelude.{Result, Ok, Err, cond}
use Prim.Native.Nat.{ℕ}
use mathlib.Core.Path.{◌≡◌, refl, ap, ◌∙◌}
use mathlib.Core.Bool.{Bool, true, false, not}
use mathlib.Core.List.{[], ◌∷◌}
use lib.ListN.{length}
use lib.Ieee.{Float}
use Rattle.session.specs.declared.Session.{Session}
use Rattle.program.specs.declared.bind.BoundProgram.{BoundProgram}
use Rattle.events.specs.declared.SampleVoice.{SampleVoice}
use Rattle.block.specs.Inputs.{Lent}
use Rattle.causes.specs.Tests.{rate_fits, no_place, id_left, lent_fits, well_formed, state_fits, in_time}
use Rattle.voice.specs.Calls.{number_of, Answer, done, if_done, make_answer, made, BlockLeft, block_answer, block_done, blocked, Program, ask_answer, is_finished, asked, end_answer, was_reset, was_closed}
use Rattle.voice.specs.Numbers.{first_of, make_number, block_number, ask_number, end_number}
use Rattle.voice.specs.declared.Refusal.{Refusal}
use Rattle.voice.specs.declared.Refusal.TheVariants.{BadRate, TooManyVoices, BadBlock, BadState, TooLate}
use Rattle.voice.specs.declared.Called.{Called}
use Rattle.voice.specs.declared.Closed.{Closed}

-- an equation of what a call gives, and with it the number of its answer
numbered : {A : Type 0} {x y : A} (f : A → Answer) (n : ℕ) → number_of (f y) ≡ n → x ≡ y → (x ≡ y) × (number_of (f x) ≡ n)
numbered f n h e = (e, ap (λ z. number_of (f z)) e ∙ h)

module _ (rate : Float) (b : BoundProgram) (s : Session) where
  make-number : number_of (made rate b s).answer ≡ make_number rate s
  unfolding made make_answer make_number
  make-number = by-case (rate_fits rate) (no_place s) (id_left s)
    where
      by-case : (x y z : Bool) → number_of (cond x (cond y (Err TooManyVoices) (cond z done (Err TooLate))) (Err BadRate)) ≡ first_of ((not x, 5) ∷ (y, 6) ∷ (not z, 9) ∷ [])
      by-case true true z = refl
      by-case true false true = refl
      by-case true false false = refl
      by-case false y z = refl

  pub make-promise : {r : Called} → r ≡ made rate b s → (r ≡ made rate b s) × (number_of r.answer ≡ make_number rate s)
  make-promise e = numbered (λ (x : Called). x.answer) _ make-number e

module _ (l : Lent) (s : Session) (v : SampleVoice) where
  -- a block hands out the answer, done or turned back
  told : (blocked l s v).called.answer ≡ block_answer l s v
  unfolding blocked block_done
  told = by-case (block_answer l s v)
    where
      by-case : (a : Answer) → (if_done a (block_done l s v) (record { called = record { answer = a; session = s; voice = v }; left = l.left; right = l.right })).called.answer ≡ a
      by-case (Ok x) = refl
      by-case (Err r) = refl

  block-number : number_of (blocked l s v).called.answer ≡ block_number l s v
  unfolding block_answer block_number
  block-number =
      ap number_of told
      ∙ by-case (lent_fits l) (state_fits s v l.words l.samples (length l.pcm) (length l.table))
      (in_time l.time.offset s.event_serial)
    where
      by-case : (x y z : Bool) → number_of (cond x (cond y (cond z done (Err TooLate)) (Err BadState)) (Err BadBlock)) ≡ first_of ((not x, 7) ∷ (not y, 8) ∷ (not z, 9) ∷ [])
      by-case true true true = refl
      by-case true true false = refl
      by-case true false z = refl
      by-case false y z = refl

  pub block-promise : {r : BlockLeft} → r ≡ blocked l s v → (r ≡ blocked l s v) × (number_of r.called.answer ≡ block_number l s v)
  block-promise e = numbered (λ (x : BlockLeft). x.called.answer) _ block-number e

state-number : (x : Bool) → number_of (cond x done (Err BadState)) ≡ first_of ((not x, 8) ∷ [])
state-number true = refl
state-number false = refl

module _ (k : Program) (s : Session) (v : SampleVoice) where
  ask-number : number_of (asked k s v) ≡ ask_number k s v
  unfolding asked ask_answer ask_number
  ask-number = by-case (state_fits s v k.words k.samples (length k.pcm) (length k.table))
    where
      by-case : (x : Bool) → number_of (result_and (cond x done (Err BadState)) (Ok (is_finished k.words v))) ≡ first_of ((not x, 8) ∷ [])
      by-case true = refl
      by-case false = refl

  pub ask-promise : {r : Result Bool Refusal} → r ≡ asked k s v → (r ≡ asked k s v) × (number_of r ≡ ask_number k s v)
  ask-promise e = (e, ap number_of e ∙ ask-number)

module _ (s : Session) (v : SampleVoice) where
  reset-number : number_of (was_reset s v).answer ≡ end_number s v
  unfolding was_reset end_answer end_number
  reset-number = state-number (well_formed s v)

  pub reset-promise : {r : Called} → r ≡ was_reset s v → (r ≡ was_reset s v) × (number_of r.answer ≡ end_number s v)
  reset-promise e = numbered (λ (x : Called). x.answer) _ reset-number e

  close-number : number_of (was_closed s v).answer ≡ end_number s v
  unfolding was_closed end_answer end_number
  close-number = state-number (well_formed s v)

  pub close-promise : {r : Closed} → r ≡ was_closed s v → (r ≡ was_closed s v) × (number_of r.answer ≡ end_number s v)
  close-promise e = numbered (λ (x : Closed). x.answer) _ close-number e
