-- What the tests 7 to 9 leave to the block: they pass, and all that the block leans on holds. Assumes nothing.
use Rattle.std.specs.Prelude.{Option, Some, None, option_map}
use Prim.Native.Nat.{ℕ, ◌+◌, ◌-◌, ◌*◌, ◌/◌, ◌^◌, ◌<◌, ◌≤◌}
use mathlib.Core.Path.{◌≡◌, refl, sym, ap, subst, ◌∙◌}
use mathlib.Core.Bool.{Bool, true, false, not, ◌&&◌, ◌||◌, cond, true≢false}
use mathlib.Core.List.{List, [], ◌∷◌, map}
use native.Mathlib.Nat.{div-lt_iff_lt-mul, sub-zero}
use native.Mathlib.Omega.{arith}
use lib.Dec.{T, leb, ltb, eqb}
use lib.ListN.{length, get_or, take, drop, replicate}
use lib.Seq.{length-take-le}
use lib.Ieee.{Float}
use borrow.Author.Tests.{leb-true, ltb-true, ltb-false, eqb-false, lt-leb, not-true}
use Rattle.program.specs.Bind.{program_ok, region_count, sample_count, counts_ok, counts_in, program_tests}
use Rattle.std.specs.List.{list_all, range_with_len}
use Rattle.program.specs.Region.{words_of, region_of, region_at, playback_of, float_of}
use Rattle.program.specs.Sample.{sample_at, sample_of, shape_tests}
use Rattle.program.specs.Valid.{every, valid_region, region_tests, place_tests, loop_in_order}
use Rattle.program.specs.declared.bind.BoundProgram.{BoundProgram}
use Rattle.program.proofs.Checks.{every-at}
use Rattle.program.proofs.Bound.{regions-are, samples-are, table-enough, region-good, sample-good}
use Rattle.player_checks.specs.Sound.{samples_fit}
use Rattle.player_checks.proofs.Fits.{fit-ok}
use Rattle.session.specs.declared.Session.{Session}
use Rattle.events.specs.Voice.{Bindable}
use Rattle.events.specs.declared.SampleVoice.{SampleVoice}
use Rattle.block.specs.Inputs.{Lent, Signals}
use Rattle.block.specs.Ready.{VoiceOk, Covers, Ready}
use Rattle.causes.specs.declared.Lengths.{Lengths}
use Rattle.causes.specs.Tests.{is_short, falls_short, lengths_fit, fit_tests, parts_fit, lent_fits, form_tests, well_formed, program_fits, in_time, state_fits}

true-is : (t : Bool) → t ≡ true → T t
true-is true e = tt
true-is false e = absurd (true≢false (sym e))

-- what begins past the whole parts does not fit
past : (n i : ℕ) {k : ℕ} → 0 < k → n / k ≤ i → n < (i + 1) * k
past n i {k} p h = let l : n / k < i + 1 = omega arith in (div-lt_iff_lt-mul p).0 l

-- ---- the program
module _ (b : BoundProgram) (ws ss : List ℕ) (frames table : ℕ) (ok : program_ok b ws ss frames table ≡ true) where
  -- past the program's regions every word counts as 0
  no_words : (i : ℕ) → b.regions ≤ i → words_of ws i ≡ replicate 392 0
  unfolding words_of
  no_words i h =
      let r = regions-are b ws ss frames table ok in
      let o : 0 < 392 = omega arith in
      let q : length ws / 392 ≤ i = omega arith in
      let p = past (length ws) i o q in
      let m : length ws < i * 392 + 392 = omega arith in
      ap (λ (t : Bool). cond t (take 392 (drop (i * 392) ws)) (replicate 392 0)) (lt-leb _ _ m)

  no_loop : T (loop_in_order (region_of (replicate 392 0)).play.loop_points)
  unfolding region_of playback_of
  no_loop = tt

  in_order : (i : ℕ) → valid_region b.samples (words_of ws i) ≡ true → T (loop_in_order (region_at ws i).play.loop_points)
  unfolding valid_region place_tests
  in_order i e =
      true-is _ (every-at (place_tests b.samples (region_at ws i)) 1 (every-at (region_tests b.samples (words_of ws i) (region_at ws i)) 1 e))

  -- a region of the program has its loop in order, and one past them has none
  pub bindable : Bindable ws
  bindable i = by-case (ltb i b.regions) refl
    where
      by-case : (t : Bool) → ltb i b.regions ≡ t → T (loop_in_order (region_at ws i).play.loop_points)
      by-case true q = in_order i (region-good b ws ss frames table ok i (ltb-true i b.regions q))
      by-case false q = subst (λ (r : List ℕ). T (loop_in_order (region_of r).play.loop_points)) (sym (no_words i (ltb-false i b.regions q))) no_loop

  no_frames : (j : ℕ) → b.samples ≤ j → (sample_at ss j).frames ≡ 0
  unfolding sample_at
  no_frames j h =
      let r = samples-are b ws ss frames table ok in
      let o : 0 < 4 = omega arith in
      let q : length ss / 4 ≤ j = omega arith in
      let p = past (length ss) j o q in
      let m : length ss < j * 4 + 4 = omega arith in
      ap (λ (t : Bool). (cond t (sample_of ss (j * 4)) (record { rate = float_of 0; channels = 0; frames = 0; start = 0 })).frames) (lt-leb _ _ m)

  -- a sample of the program is not too long, and one past them has no frame
  pub few-frames : (j : ℕ) → (sample_at ss j).frames ≤ 4294967295
  few-frames j = by-case (ltb j b.samples) refl
    where
      by-case : (t : Bool) → ltb j b.samples ≡ t → (sample_at ss j).frames ≤ 4294967295
      by-case true q =
          let h = leb-true (sample_at ss j).frames 2147483647 (every-at (shape_tests b.frames (sample_at ss j)) 4 (sample-good b ws ss frames table ok j (ltb-true j b.samples q))) in
          omega arith
      by-case false q = let h = no_frames j (ltb-false j b.samples q) in omega arith

  pub few-regions : b.regions ≤ 256
  unfolding program_ok counts_ok
  few-regions =
      let c = every-at (program_tests b ws ss frames table) 4 ok in
      let h = leb-true (region_count ws) 256 (every-at (leb (region_count ws) 256 ∷ leb (sample_count ss) 256 ∷ list_all (counts_in ws) (range_with_len 0 (region_count ws)) ∷ []) 0 c) in
      let r = regions-are b ws ss frames table ok in
      omega arith

both : (a b : Bool) → (a && b) ≡ true → (a ≡ true) × (b ≡ true)
both true b e = (refl, e)
both false b e = absurd (true≢false (sym e))

-- none of seven, each by itself
pub none_short : (a b c d e f g : Bool) → not (a || (b || (c || (d || (e || (f || (g || false))))))) ≡ every (not a ∷ not b ∷ not c ∷ not d ∷ not e ∷ not f ∷ not g ∷ [])
none_short true b c d e f g = refl
none_short false true c d e f g = refl
none_short false false true d e f g = refl
none_short false false false true e f g = refl
none_short false false false false true f g = refl
none_short false false false false false true g = refl
none_short false false false false false false true = refl
none_short false false false false false false false = refl

-- an input is short where its length is
short_is : (o : Option (List Float)) (n : ℕ) → falls_short (option_map length o) n ≡ is_short o n
short_is None n = refl
short_is (Some xs) n = refl

add : (o : Option (List Float)) (n : ℕ) (k : Option ℕ) {ts us : List Bool} → k ≡ option_map length o → ts ≡ us
    → not (falls_short k n) ∷ ts ≡ not (is_short o n) ∷ us
add o n k {ts} {us} e f =
    ap (λ (m : Option ℕ). not (falls_short m n) ∷ ts) e ∙ (ap (λ (t : Bool). not t ∷ ts) (short_is o n) ∙ ap (λ (us : List Bool). not (is_short o n) ∷ us) f)

-- what the inputs' lengths tell is what the inputs tell
pub same_fit : (n : ℕ) (x : Signals) (y : Lengths)
    → y.freq ≡ option_map length x.freq
    → y.gate ≡ option_map length x.gate
    → y.vel ≡ option_map length x.vel
    → y.amp ≡ option_map length x.amp
    → y.seed ≡ option_map length x.seed
    → y.bend ≡ option_map length x.bend
    → y.quality ≡ option_map length x.quality
    → lengths_fit n y ≡ parts_fit n x y.left y.right
unfolding lengths_fit parts_fit
same_fit n x y a b c d e f g =
    ap (λ (ts : List Bool). every (not (eqb n 0) ∷ leb n 128 ∷ leb n y.left ∷ leb n y.right ∷ ts))
    (add x.freq n y.freq a (add x.gate n y.gate b (add x.vel n y.vel c (add x.amp n y.amp d (add x.seed n y.seed e (add x.bend n y.bend f (add x.quality n y.quality {ts = []} g refl)))))))

pub connected-fits : (x : Option (List Float)) (n : ℕ) → not (is_short x n) ≡ true → Covers x n
connected-fits None n e = tt
connected-fits (Some xs) n e = ltb-false (length xs) n (not-true (ltb (length xs) n) e)

-- what was lent, with these outputs
abbrev pub with_outs : Lent → List Float → List Float → Lent
with_outs l left right = record {
  time = l.time;
  words = l.words;
  samples = l.samples;
  pcm = l.pcm;
  table = l.table;
  inputs = l.inputs;
  left = left;
  right = right;
}

-- ---- all tests together
module _ (l : Lent) (s : Session) (v : SampleVoice) where
  module _ (e : lent_fits l ≡ true) where
    fit : (i : ℕ) → get_or (fit_tests l.time.frames l.inputs (length l.left) (length l.right)) i true ≡ true
    unfolding parts_fit
    fit i = every-at (fit_tests l.time.frames l.inputs (length l.left) (length l.right)) i e

    pub in_left : l.time.frames ≤ length l.left
    in_left = leb-true _ _ (fit 2)

    pub in_right : l.time.frames ≤ length l.right
    in_right = leb-true _ _ (fit 3)

  module _ (size : length v.players.players ≡ 32) (formed : well_formed s v ≡ true)
      (lent : program_fits v l.words l.samples (length l.pcm) (length l.table) ≡ true) where
    bound : program_ok v.program l.words l.samples (length l.pcm) (length l.table) ≡ true
    unfolding program_fits
    bound = every-at (program_ok v.program l.words l.samples (length l.pcm) (length l.table) ∷ samples_fit l.samples v.players ∷ []) 0 lent

    pub voice-ok : VoiceOk l.words v
    unfolding well_formed program_fits
    voice-ok =
        let at : (i : ℕ) → get_or (form_tests s v) i true ≡ true = λ i. every-at (form_tests s v) i formed in
        let beside = every-at (program_ok v.program l.words l.samples (length l.pcm) (length l.table) ∷ samples_fit l.samples v.players ∷ []) 1 lent in
        record {
          players = fit-ok v.program l.samples v.players (ltb-false _ _ (not-true _ (at 6))) size (few-frames v.program l.words l.samples _ _ bound) (at 11) beside;
          bindable = bindable v.program l.words l.samples _ _ bound;
          regions = few-regions v.program l.words l.samples _ _ bound;
        }

    pub tests-ready : lent_fits l ≡ true → in_time l.time.offset s.event_serial ≡ true
        → (left right : List Float) → length left ≡ l.time.frames → length right ≡ l.time.frames → Ready (with_outs l left right) v
    unfolding in_time
    tests-ready e timely left right f g =
        let n = l.time.frames in
        let x = l.inputs in
        let no : n ≡ 0 → ⊥ = eqb-false n 0 (not-true (eqb n 0) (fit e 0)) in
        record {
          voice = voice-ok;
          some = omega arith;
          most = leb-true n 128 (fit e 1);
          offset = leb-true l.time.offset (2 ^ 63) (every-at (leb l.time.offset (2 ^ 63) ∷ leb s.event_serial (2 ^ 63) ∷ []) 0 timely);
          table = table-enough v.program l.words l.samples (length l.pcm) (length l.table) bound;
          freq = connected-fits x.freq n (fit e 4);
          gate = connected-fits x.gate n (fit e 5);
          vel = connected-fits x.vel n (fit e 6);
          amp = connected-fits x.amp n (fit e 7);
          seed = connected-fits x.seed n (fit e 8);
          bend = connected-fits x.bend n (fit e 9);
          quality = connected-fits x.quality n (fit e 10);
          left = f;
          right = g;
        }

-- the first n frames of an output, as they are lent on
pub part_length : (n : ℕ) (xs : List Float) → n ≤ length xs → length (take (n - 0) (drop 0 xs)) ≡ n
part_length n xs h = ap (λ (k : ℕ). length (take k xs)) (sub-zero n) ∙ length-take-le n xs h

module _ (l : Lent) (s : Session) (v : SampleVoice) where
  -- tests 7 to 9 in the form in which the call has them
  pub ready : length v.players.players ≡ 32 → lent_fits l ≡ true
      → state_fits s v l.words l.samples (length l.pcm) (length l.table) ≡ true → in_time l.time.offset s.event_serial ≡ true
      → Ready (with_outs l (take (l.time.frames - 0) (drop 0 l.left)) (take (l.time.frames - 0) (drop 0 l.right))) v
  ready size fits state timely =
      let b = both (well_formed s v) _ state in
      tests-ready l s v size b.0 b.1 fits timely _ _ (part_length _ _ (in_left l s v fits)) (part_length _ _ (in_right l s v fits))
