-- One record after the other yields. Assumes nothing.
use Rattle.std.proofs.Common.{◌≡◌, ℕ, zero, suc, ◌+◌, ◌-◌, count_by, ◌<◌, ◌≤◌, Bool, true, false, leb, List, [], ◌∷◌, length, sym, refl, ap, ◌∙◌, arith, None, Option, Some, cond}
use lib.ListN.{length-map}
use Rattle.session.specs.Lists.{change_if, change_first}
use Rattle.session.specs.Records.{may_yield, quieter, of_region, older, is_sister, in_slots, waits, marked, ended, collected, choked_by, shares_note}
use Rattle.session.specs.Rules.{mark_sisters, lowest, or_stop, yield_up, choke, limit_note, limit_region, after_note_polyphony, polyphony, end_oldest, start_marks, surplus_of, mark_ended, collect, collect_first}
use Rattle.session.specs.declared.PlayerRecord.{PlayerRecord}
use Rattle.session.specs.declared.Start.{Start}

-- ---- marking keeps the length

pub length-sisters : (v b at : ℕ) (rs : List PlayerRecord) → length (mark_sisters v b at rs) ≡ length rs
unfolding mark_sisters
length-sisters v b at rs = length-map rs (change_if (is_sister v b) (marked at))

pub length-choke : (st : Start) (rs : List PlayerRecord) → length (choke st rs) ≡ length rs
unfolding choke
length-choke st rs = length-map rs (change_if (choked_by st) (marked st.at))

pub length-ended : (v : ℕ) (ks : List ℕ) (rs : List PlayerRecord) → length (mark_ended v ks rs) ≡ length rs
unfolding mark_ended
length-ended v ks rs = length-map rs (change_if (in_slots v ks) ended)

pub length-collect : (v : ℕ) (rs : List PlayerRecord) → length (collect v rs) ≡ length rs
unfolding collect
length-collect v rs = length-map rs (change_if (waits v) collected)

length-change_first : (p : PlayerRecord → Bool) (g : PlayerRecord → PlayerRecord) (rs : List PlayerRecord) → length (change_first p g rs) ≡ length rs
length-change_first p g [] = refl
length-change_first p g (r ∷ rs) = by-case (p r) (length-change_first p g rs) where
  by-case : (t : Bool) → length (change_first p g rs) ≡ length rs → length (cond t (g r ∷ rs) (r ∷ change_first p g rs)) ≡ suc (length rs)
  by-case true h = refl
  by-case false h = ap suc h

pub length-first : (v : ℕ) (rs : List PlayerRecord) → length (collect_first v rs) ≡ length rs
unfolding collect_first
length-first v rs = length-change_first (waits v) collected rs

length-or_stop : (v : Option PlayerRecord) (rs : List PlayerRecord) (f : PlayerRecord → List PlayerRecord) → ((c : PlayerRecord) → length (f c) ≡ length rs)
    → length (or_stop v rs f) ≡ length rs
length-or_stop None rs f h = refl
length-or_stop (Some c) rs f h = h c

pub length-yield_up : (st : Start) (k : ℕ) (rs : List PlayerRecord) → length (yield_up st k rs) ≡ length rs
unfolding yield_up
length-yield_up st zero rs = refl
length-yield_up st (suc k) rs =
    length-or_stop (lowest (may_yield st) quieter rs) rs (λ c. yield_up st k (mark_sisters c.voice c.start st.at rs))
    (λ c. length-yield_up st k (mark_sisters c.voice c.start st.at rs) ∙ length-sisters c.voice c.start st.at rs)

pub length-note : (st : Start) (rs : List PlayerRecord) → length (after_note_polyphony st rs) ≡ length rs
unfolding after_note_polyphony
length-note st rs = by-case st.note_polyphony where
  by-case : (l : Option ℕ) → length (limit_note l st rs) ≡ length rs
  by-case None = refl
  by-case (Some n) = length-yield_up st (surplus_of (count_by (shares_note st) rs) n) rs

pub length-oldest : (st : Start) (rs : List PlayerRecord) → length (end_oldest st rs) ≡ length rs
unfolding end_oldest
length-oldest st rs =
    length-or_stop (lowest (of_region st) older rs) rs (λ c. mark_sisters c.voice c.start st.at rs)
    (λ c. length-sisters c.voice c.start st.at rs)

pub length-polyphony : (st : Start) (rs : List PlayerRecord) → length (polyphony st rs) ≡ length rs
unfolding polyphony
length-polyphony st rs = by-limit st.polyphony where
  by-test : (t : Bool) → length (cond t (end_oldest st rs) rs) ≡ length rs
  by-test true = length-oldest st rs
  by-test false = refl

  by-limit : (l : Option ℕ) → length (limit_region l st rs) ≡ length rs
  by-limit None = refl
  by-limit (Some p) = by-test (leb p (count_by (of_region st) rs))

pub length-marks : (st : Start) (rs : List PlayerRecord) → length (start_marks st rs) ≡ length rs
unfolding start_marks
length-marks st rs =
    length-polyphony st (after_note_polyphony st (choke st rs)) ∙ length-note st (choke st rs) ∙ length-choke st rs

-- ---- the loop of note polyphony

-- the round after the first i of n: w is what it finds among the records rs
module _ (st : Start) (rs : List PlayerRecord) (n i : ℕ) (more : i < n) (w : Option PlayerRecord) (told : w ≡ lowest (may_yield st) quieter rs) where
  unrolled : (v : Option PlayerRecord) → w ≡ v
      → yield_up st (n - i) rs ≡ or_stop v rs (λ c. yield_up st (n - (i + 1)) (mark_sisters c.voice c.start st.at rs))
  unfolding yield_up
  unrolled v e =
      let p : n - i ≡ suc (n - (i + 1)) = omega arith in
      ap (λ (k : ℕ). yield_up st k rs) p
      ∙ ap (λ (x : Option PlayerRecord). or_stop x rs (λ c. yield_up st (n - (i + 1)) (mark_sisters c.voice c.start st.at rs))) (sym told ∙ e)

  pub yield-stop : w ≡ None → rs ≡ yield_up st (n - i) rs
  yield-stop e = sym (unrolled None e)

  pub yield-next : (c : PlayerRecord) (qs : List PlayerRecord) → w ≡ Some c → qs ≡ mark_sisters c.voice c.start st.at rs
      → yield_up st (n - (i + 1)) qs ≡ yield_up st (n - i) rs
  yield-next c qs e q = ap (yield_up st (n - (i + 1))) q ∙ sym (unrolled (Some c) e)

-- no round is left
pub yield-over : (st : Start) (rs : List PlayerRecord) (n i : ℕ) → n ≤ i → rs ≡ yield_up st (n - i) rs
unfolding yield_up
yield-over st rs n i h = let z : n - i ≡ 0 = omega arith in rw z refl
