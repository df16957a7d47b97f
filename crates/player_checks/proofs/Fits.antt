-- Players that pass 01's test 8 meet what their segments lean on. Assumes nothing.
use Rattle.std.proofs.Common.{None, Option, Some}
use Prim.Native.Nat.{ℕ, ◌+◌, ◌-◌, ◌*◌, ◌^◌, ◌<◌, ◌≤◌}
use mathlib.Core.Path.{◌≡◌, refl, sym, ap, subst, ◌∙◌}
use mathlib.Core.Bool.{Bool, true, false, not, ◌&&◌, ◌||◌, cond, true≢false, beq}
use mathlib.Core.List.{List, [], ◌∷◌, map}
use native.Mathlib.Nat.{mul-one, mul_right_comm, mul-pos, eq_of_mul-eq-mul_right}
use native.Mathlib.Omega.{arith}
use lib.Dec.{T, eqb, leb, ltb, eqb→eq}
use lib.ListN.{length, take, get_or, get_or-eq_default}
use lib.Seq.{get_or-take, length-take-le}
use lib.Ieee.{Float, nan, inf, fin, binary64, up, down, le, eq, fits}
use lib.Ieee.Back.{whole_unique}
use lib.Ieee.Exact.{HasValue}
use lib.Ieee.Fits.{and_l, and_r, down_pos, of_int-fits}
use borrow.Author.Tests.{ltb-true, ltb-false, leb-true, leb-false, not-true, not-false}
use Rattle.filter.specs.declared.FilterShape.{FilterShape}
use Rattle.filter.specs.declared.FilterShape.TheVariants.{Off}
use Rattle.filter.specs.Filter.{AllStages, stage_count, shape_at}
use Rattle.interp.specs.Position.{double}
use Rattle.interp.proofs.Looping.{double-value}
use Rattle.program.specs.Region.{word, float_of}
use Rattle.program.specs.Sample.{sample_at, sample_of}
use Rattle.program.specs.Valid.{every}
use Rattle.program.specs.declared.bind.BoundProgram.{BoundProgram}
use Rattle.session.proofs.Walks.{used-small}
use Rattle.player.specs.Bounds.{LoopOk, PlayerOk}
use Rattle.player.specs.declared.LoopRt.{LoopRt}
use Rattle.player.specs.declared.Player.{Player}
use Rattle.players.specs.declared.Players.{Players}
use Rattle.players.specs.Seats.{PlayersOk, sounding, no_player}
use Rattle.player_checks.specs.Sound.{slot_fits, stages_over, is_double, frames_in, loop_wrong, position_out, step_out, frames_named, frame_count, loop_past, own_tests, sample_tests, player_fits, sample_fits, players_fit, samples_fit}
use Rattle.program.proofs.Checks.{every-at}
use Rattle.program.proofs.Checks.{and-true}
use Rattle.players.proofs.Passing.{each_at}

true-is : (t : Bool) → t ≡ true → T t
true-is true e = tt
true-is false e = absurd (true≢false (sym e))

-- ---- the loop's size

-- a number level with y, which is n above 0
level-value : (x y : Float) (n : ℕ) → 0 < n → HasValue y false n 1 → T (eq x y) → HasValue x false n 1
unfolding eq
level-value nan y n h v t = t
level-value (inf s) nan n h v t = t
level-value (inf s) (inf u) n h v t = v
level-value (inf s) (fin u k d) n h v t = t
level-value (fin s m e) nan n h v t = absurd t
level-value (fin s m e) (inf u) n h v t = absurd t
level-value (fin s m e) (fin true k d) n h v t = absurd (true≢false v.0)
level-value (fin s m e) (fin false k d) n h v t =
    let a : m * up e * down d ≡ k * up d * down e = eqb→eq (m * up e * down d) (k * up d * down e) (and_l (eqb (m * up e * down d) (k * up d * down e)) _ t) in
    let b : k * up d ≡ n * down d = sym (mul-one (k * up d)) ∙ v.1 in
    let c : m * up e * down d ≡ n * down e * down d = a ∙ ap (λ (z : ℕ). z * down e) b ∙ mul_right_comm n (down d) (down e) in
    let p : 0 < m * up e * down d = subst (λ (z : ℕ). 0 < z) (sym c) (mul-pos (mul-pos h (down_pos e)) (down_pos d)) in
    (signed s (and_r (eqb (m * up e * down d) (k * up d * down e)) _ t) p, mul-one (m * up e) ∙ eq_of_mul-eq-mul_right (down d) (down_pos d) _ _ c)
  where
    signed : (s : Bool) {z : ℕ} → T (beq s false || eqb z 0) → 0 < z → s ≡ false
    signed false t p = refl
    signed true {z} t p = let q : z ≡ 0 = eqb→eq z 0 t in absurd (omega arith)

-- a double that tests as n is the double of n
pub double-is : (n : ℕ) (x : Float) → 0 < n → n ≤ 2 ^ 53 → is_double n x ≡ true → x ≡ double n
unfolding is_double
double-is n x h l e =
    let t : T (eq x (double n) && fits binary64 x) = true-is _ e in
    whole_unique binary64 x (double n) false n (and_r (eq x (double n)) _ t) (of_int-fits binary64 _) (level-value x (double n) n h (double-value n l) (and_l (eq x (double n)) _ t)) (double-value n l)

-- what the machine holds fits, so that its test is the whole of it
pub told-double : (n : ℕ) (x : Float) → fits binary64 x ≡ true → eq x (double n) ≡ is_double n x
unfolding is_double
told-double n x h = sym (ap (λ (t : Bool). eq x (double n) && t) h ∙ and-true (eq x (double n)))

-- ---- the test of a loop
abbrev loop_tests : LoopRt → List Bool
loop_tests l = leb l.start l.end ∷ is_double (l.end + 1 - l.start) l.size ∷ leb (frames_in l.fade) l.start ∷ []

-- ---- a player

-- the loop passes, and ends below n frames
loop-ok : (lp : Option LoopRt) (n : ℕ) → n ≤ 4294967295 → loop_wrong lp ≡ false → loop_past n lp ≡ false → LoopOk lp
unfolding loop_wrong
loop-ok None n h w p = tt
loop-ok (Some l) n h w p =
    let ts = loop_tests l in
    let all : every ts ≡ true = not-false (every ts) w in
    let a : l.start ≤ l.end = leb-true _ _ (every-at ts 0 all) in
    let b : l.end < n = leb-false _ _ p in
    (a, omega arith, double-is (l.end + 1 - l.start) l.size (omega arith) (omega arith) (every-at ts 1 all))

within : (lo hi x : Float) → not (le lo x && le x hi) ≡ false → T (le lo x) × T (le x hi)
within lo hi x e = let t : T (le lo x && le x hi) = true-is _ (not-false (le lo x && le x hi) e) in (and_l (le lo x) _ t, and_r (le lo x) _ t)

stages-ok : (slots : List FilterShape) → every (map slot_fits slots) ≡ true → AllStages slots
stages-ok slots e k = by-case (ltb k (length slots)) refl
  where
    by-case : (t : Bool) → ltb k (length slots) ≡ t → stage_count (shape_at slots k) ≤ 3
    by-case true q = leb-true _ _ (each_at slot_fits slots k Off e (ltb-true k (length slots) q))
    by-case false q =
        let z : stage_count (shape_at slots k) ≡ 0 = ap stage_count (get_or-eq_default slots Off (ltb-false k (length slots) q)) in
        omega arith

-- a sample's words are below 2 ^ 32, and so are its frames
pub frames-fit : (ss : List ℕ) → ((i : ℕ) → word ss i < 4294967296) → (j : ℕ) → (sample_at ss j).frames ≤ 4294967295
unfolding sample_at
frames-fit ss h j = by-case (leb (j * 4 + 4) (length ss))
  where
    by-case : (t : Bool) → (cond t (sample_of ss (j * 4)) (record { rate = float_of 0; channels = 0; frames = 0; start = 0 })).frames ≤ 4294967295
    by-case true = omega (arith, h (j * 4 + 2))
    by-case false = omega arith

count_fits : (ss : List ℕ) (p : Player) → ((j : ℕ) → (sample_at ss j).frames ≤ 4294967295) → frame_count ss p ≤ 4294967295
unfolding frame_count
count_fits ss p h = by-case p.sample
  where
    by-case : (m : Option ℕ) → frames_named ss m ≤ 4294967295
    by-case None = omega arith
    by-case (Some i) = h i

-- a player that passes
pub player-ok : (b : BoundProgram) (ss : List ℕ) (p : Player) → ((j : ℕ) → (sample_at ss j).frames ≤ 4294967295) → player_fits b p ≡ true → sample_fits ss p ≡ true → PlayerOk p
unfolding player_fits sample_fits position_out step_out stages_over
player-ok b ss p words own beside =
    let at : (i : ℕ) → get_or (own_tests b p) i true ≡ true = λ i. every-at (own_tests b p) i own in
    let n : frame_count ss p ≤ 4294967295 = count_fits ss p words in
    let past : loop_past (frame_count ss p) p.cold.lp ≡ false = not-true _ (every-at (sample_tests ss p) 0 beside) in
    let last : p.cold.last < frame_count ss p = leb-false _ _ (not-true _ (every-at (sample_tests ss p) 1 beside)) in
    let step = within _ _ _ (not-true _ (at 7)) in
    let place = within _ _ _ (not-true _ (at 6)) in
    record {
      cold = record {
        step = record { low = step.0; high = step.1 };
        half = ltb-false _ _ (not-true _ (at 2));
        last = omega arith;
        lp = loop-ok p.cold.lp (frame_count ss p) n (not-true _ (at 5)) past;
        filters = ltb-false _ _ (not-true _ (at 3));
      };
      stages = stages-ok p.slots (not-false _ (not-true _ (at 4)));
      position = record { low = place.0; high = place.1 };
    }

-- players that pass
pub fit-ok : (b : BoundProgram) (ss : List ℕ) (ps : Players) → ps.count ≤ 32 → length ps.players ≡ 32
    → ((j : ℕ) → (sample_at ss j).frames ≤ 4294967295) → players_fit b ps ≡ true → samples_fit ss ps ≡ true → PlayersOk ps
unfolding players_fit samples_fit
fit-ok b ss ps few size words own beside = record {
  few = few;
  size = size;
  each = λ (k : ℕ) (h : k < ps.count).
      let n : length (sounding ps) ≡ ps.count = ap (λ (m : ℕ). length (take m ps.players)) (used-small 32 ps.count few) ∙ length-take-le ps.count ps.players (omega arith) in
      let at : get_or (sounding ps) k no_player ≡ get_or ps.players k no_player =
      ap (λ (m : ℕ). get_or (take m ps.players) k no_player) (used-small 32 ps.count few) ∙ get_or-take ps.count ps.players k no_player h in
      let i : k < length (sounding ps) = rw n h in
      let q = get_or (sounding ps) k no_player in
      subst PlayerOk at (player-ok b ss q words (each_at (player_fits b) (sounding ps) k no_player own i) (each_at (sample_fits ss) (sounding ps) k no_player beside i));
}
