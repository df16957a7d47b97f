-- Choosing stands apart from starting: what a starting region does to the session changes no answer that a release asks for, so that
-- its regions may be chosen before the first of them starts; and likewise at a note-on, which asks for sequences alone. Assumes nothing.
use Rattle.std.specs.List.{list_any}
use Rattle.std.specs.Prelude.{cond, filter, ◌||◌}
use Prim.Native.Nat.{ℕ, ◌≤◌}
use mathlib.Core.Path.{◌≡◌, refl, sym, ap, ◌∙◌}
use mathlib.Core.Bool.{Bool, true, false, ◌&&◌}
use mathlib.Core.List.{List, [], ◌∷◌, ◌++◌, map, foldl, foldl-append}
use native.Mathlib.Omega.{arith}
use lib.ListN.{length, get_or, length-append}
use lib.Dec.{ltb}
use lib.Ieee.{Float}
use borrow.Author.Tests.{ltb-true}
use Rattle.program.specs.Lookup.{regions_for_key}
use Rattle.program.specs.Region.{region_at}
use Rattle.session.specs.Changes.{unmarked}
use Rattle.session.specs.Records.{in_window}
use Rattle.session.specs.Rules.{start_marks, enter}
use Rattle.session.specs.State.{view, relist}
use Rattle.session.specs.Tests.{attack_playing}
use Rattle.session.specs.declared.PlayerRecord.{PlayerRecord}
use Rattle.session.specs.declared.Sequences.{Sequences}
use Rattle.session.specs.declared.Session.{Session}
use Rattle.session.specs.declared.Start.{Start}
use Rattle.session.specs.declared.Window.{Window}
use Rattle.session.proofs.Laws.{marks-along, marks-same, along-length}
use Rattle.session.proofs.Packing.{keep_same}
use Rattle.session.proofs.Relist.{view-few, view-relist}
use Rattle.note.specs.Choice.{Hit, Choosing, moved, starts_on, choose_one, choosing_on, may_start, window_in, triggered_off, starts_off, chosen_off}

-- ---- whether an attack plays

module _ (w : Window) where
  -- marks and off times are not asked for
  any-unmarked : (rs : List PlayerRecord) → list_any (in_window w) (map unmarked rs) ≡ list_any (in_window w) rs
  unfolding in_window
  any-unmarked [] = refl
  any-unmarked (r ∷ rs) = ap (λ t. in_window w r || t) (any-unmarked rs)

  any_last : (r : PlayerRecord) → in_window w r ≡ false → (rs : List PlayerRecord) → list_any (in_window w) (rs ++ (r ∷ [])) ≡ list_any (in_window w) rs
  any_last r e [] = ap (λ t. t || false) e
  any_last r e (x ∷ rs) = ap (λ t. in_window w x || t) (any_last r e rs)

  not_on : (r : PlayerRecord) → r.on_note ≡ false → in_window w r ≡ false
  unfolding in_window
  not_on r e = rw e refl

  any-entered : (r : PlayerRecord) → r.on_note ≡ false → (rs : List PlayerRecord) → list_any (in_window w) (enter r rs) ≡ list_any (in_window w) rs
  unfolding enter
  any-entered r e rs = by-case (ltb (length rs) 512) where
    by-case : (t : Bool) → list_any (in_window w) (cond t (rs ++ (r ∷ [])) rs) ≡ list_any (in_window w) rs
    by-case true = any_last r (not_on r e) rs
    by-case false = refl

  enter-few : (r : PlayerRecord) (rs : List PlayerRecord) → length rs ≤ 512 → length (enter r rs) ≤ 512
  unfolding enter
  enter-few r rs h = by-case (ltb (length rs) 512) refl where
    by-case : (t : Bool) → ltb (length rs) 512 ≡ t → length (cond t (rs ++ (r ∷ [])) rs) ≤ 512
    by-case true e = omega (arith, ltb-true (length rs) 512 e, length-append rs (r ∷ []))
    by-case false e = h

  module _ (s : Session) (size : length s.players ≡ 512) where
    relisted : (ks : List PlayerRecord) → length ks ≤ 512 → list_any (in_window w) ks ≡ list_any (in_window w) (view s) → attack_playing w (relist ks s) ≡ attack_playing w s
    unfolding attack_playing
    relisted ks h e = ap (list_any (in_window w)) (view-relist s size ks h) ∙ e

    -- what a starting region marks
    pub marks-apart : (st : Start) → attack_playing w (relist (start_marks st (view s)) s) ≡ attack_playing w s
    marks-apart st =
        relisted (start_marks st (view s)) (omega (arith, along-length (marks-along st (view s)), view-few s))
        (sym (any-unmarked (start_marks st (view s))) ∙ ap (list_any (in_window w)) (marks-same st (view s)) ∙ any-unmarked (view s))

    -- the record of a region that no note-on starts
    pub entry-apart : (r : PlayerRecord) → r.on_note ≡ false → attack_playing w (relist (enter r (view s)) s) ≡ attack_playing w s
    entry-apart r e = relisted (enter r (view s)) (enter-few r (view s) (view-few s)) (any-entered r e (view s))

-- ---- the choice of a release

-- two sessions of which a release asks the same
pub record AsksSame (s t : Session) : Type 0 where
  pub flags : t.seq.seq_on ≡ s.seq.seq_on
  pub attacks : (w : Window) → attack_playing w t ≡ attack_playing w s

pub asks-trans : (s t u : Session) → AsksSame s t → AsksSame t u → AsksSame s u
asks-trans s t u h k = record { flags = k.flags ∙ h.flags; attacks = λ w. k.attacks w ∙ h.attacks w }

module _ (s : Session) (size : length s.players ≡ 512) where
  pub marks-same-asked : (st : Start) → AsksSame s (relist (start_marks st (view s)) s)
  marks-same-asked st = record { flags = refl; attacks = λ w. marks-apart w s size st }

  pub entry-same-asked : (r : PlayerRecord) → r.on_note ≡ false → AsksSame s (relist (enter r (view s)) s)
  entry-same-asked r e = record { flags = refl; attacks = λ w. entry-apart w s size r e }

module _ (ws : List ℕ) (vel : ℕ) (draw : Float) where
  pub starts_apart : (s t : Session) → AsksSame s t → (i : ℕ) → starts_off ws vel draw t i ≡ starts_off ws vel draw s i
  unfolding starts_off
  starts_apart s t h i =
      ap (λ a. triggered_off (region_at ws i).chosen.trigger a && may_start (region_at ws i) vel draw (get_or t.seq.seq_on i false)) (h.attacks (window_in (region_at ws i)))
      ∙ ap (λ l. triggered_off (region_at ws i).chosen.trigger (attack_playing (window_in (region_at ws i)) s) && may_start (region_at ws i) vel draw (get_or l i false)) h.flags

  -- the release chooses the same
  pub release-apart : (n key : ℕ) (s t : Session) → AsksSame s t → chosen_off ws n key vel draw t ≡ chosen_off ws n key vel draw s
  unfolding chosen_off
  release-apart n key s t h = keep_same (starts_off ws vel draw t) (starts_off ws vel draw s) (starts_apart s t h) (regions_for_key ws n key)

  -- The Rust's loop tests a region, starts it, and goes on to the next. S is what a start changes, with a session in it: where each start
  -- leaves what a release asks, this is starting, in order, those chosen before.
  module _ {S : Type 0} (session : S → Session) (Sound : S → Type 0) (start : S → ℕ → S) (sound : (s : S) (i : ℕ) → Sound s → Sound (start s i))
      (same : (s : S) (i : ℕ) → Sound s → AsksSame (session s) (session (start s i))) where
    abbrev pub test_and_start : S → ℕ → S
    test_and_start s i = cond (starts_off ws vel draw (session s) i) (start s i) s

    in-turn : (s : S) → Sound s → (is : List ℕ) → foldl test_and_start s is ≡ foldl start s (filter (starts_off ws vel draw (session s)) is)
    in-turn s ok [] = refl
    in-turn s ok (i ∷ is) = by-case (starts_off ws vel draw (session s) i) (in-turn (start s i) (sound s i ok) is) (in-turn s ok is) where
      by-case : (t : Bool) → foldl test_and_start (start s i) is ≡ foldl start (start s i) (filter (starts_off ws vel draw (session (start s i))) is)
          → foldl test_and_start s is ≡ foldl start s (filter (starts_off ws vel draw (session s)) is)
          → foldl test_and_start (cond t (start s i) s) is
          ≡ foldl start s (cond t (i ∷ filter (starts_off ws vel draw (session s)) is) (filter (starts_off ws vel draw (session s)) is))
      by-case true here past =
          here
          ∙ ap (foldl start (start s i))
          (keep_same (starts_off ws vel draw (session (start s i))) (starts_off ws vel draw (session s)) (starts_apart (session s) (session (start s i)) (same s i ok)) is)
      by-case false here past = past

    pub release-first : (n key : ℕ) (s : S) → Sound s
        → foldl test_and_start s (regions_for_key ws n key) ≡ foldl start s (chosen_off ws n key vel draw (session s))
    unfolding chosen_off
    release-first n key s ok = in-turn s ok (regions_for_key ws n key)

-- ---- the choice of a note-on

-- The same for a note-on: its loop moves a region's sequence, tests the region, starts it, and goes on. S is what a start changes, with the
-- sequences in it, which `put` sets. A start leaves them, and does not read them.
module _ {S : Type 0} (seqs : S → Sequences) (put : Sequences → S → S) (start : S → ℕ → S)
    (got : (q : Sequences) (s : S) → seqs (put q s) ≡ q) (again : (q r : Sequences) (s : S) → put q (put r s) ≡ put q s) (back : (s : S) → put (seqs s) s ≡ s)
    (left : (s : S) (i : ℕ) → seqs (start s i) ≡ seqs s) (blind : (q : Sequences) (s : S) (i : ℕ) → put q (start s i) ≡ start (put q s) i) (h : Hit) where
  abbrev pub start_if : S → ℕ → S
  start_if s i = cond (starts_on h (seqs s) i) (start s i) s

  abbrev pub move_and_start : S → ℕ → S
  move_and_start s i = start_if (put (moved (region_at h.words i) i (seqs s)) s) i

  seqs-left : (s : S) (is : List ℕ) → seqs (foldl start s is) ≡ seqs s
  seqs-left s [] = refl
  seqs-left s (i ∷ is) = seqs-left (start s i) is ∙ left s i

  put_first : (q : Sequences) (s : S) (is : List ℕ) → put q (foldl start s is) ≡ foldl start (put q s) is
  put_first q s [] = refl
  put_first q s (i ∷ is) = put_first q (start s i) is ∙ ap (λ x. foldl start x is) (blind q s i)

  -- those chosen, started from s
  started : S → Choosing → S
  started s c = foldl start (put c.seq s) c.regions

  one-turn : (s : S) (c : Choosing) (i : ℕ) → move_and_start (started s c) i ≡ started s (choose_one h c i)
  unfolding choose_one started
  one-turn s c i =
      let q = moved (region_at h.words i) i c.seq in
      let now : seqs (started s c) ≡ c.seq = seqs-left (put c.seq s) c.regions ∙ got c.seq s in
      let stepped : put q (started s c) ≡ foldl start (put q s) c.regions = put_first q (put c.seq s) c.regions ∙ ap (λ x. foldl start x c.regions) (again q c.seq s) in
      ap (λ r. start_if (put (moved (region_at h.words i) i r) (started s c)) i) now
      ∙ ap (λ x. start_if x i) stepped
      ∙ ap (λ r. cond (starts_on h r i) (start (foldl start (put q s) c.regions) i) (foldl start (put q s) c.regions)) (seqs-left (put q s) c.regions ∙ got q s)
      ∙ by-case (put q s) (starts_on h q i) where
        by-case : (x : S) (t : Bool) → cond t (start (foldl start x c.regions) i) (foldl start x c.regions) ≡ foldl start x (cond t (c.regions ++ (i ∷ [])) c.regions)
        by-case x true = sym (foldl-append start x c.regions (i ∷ []))
        by-case x false = refl

  turns : (s : S) (c : Choosing) (is : List ℕ) → foldl move_and_start (started s c) is ≡ started s (foldl (choose_one h) c is)
  turns s c [] = refl
  turns s c (i ∷ is) = ap (λ x. foldl move_and_start x is) (one-turn s c i) ∙ turns s (choose_one h c i) is

  pub note-on-first : (n key : ℕ) (s : S) → foldl move_and_start s (regions_for_key h.words n key)
      ≡ foldl start (put (choosing_on h n key (seqs s)).seq s) (choosing_on h n key (seqs s)).regions
  unfolding choosing_on started
  note-on-first n key s =
      ap (λ x. foldl move_and_start x (regions_for_key h.words n key)) (sym (back s))
      ∙ turns s (record { seq = seqs s; regions = [] }) (regions_for_key h.words n key)
