-- A start as a whole: its marks in place, and then its record. Assumes nothing.
use Rattle.std.proofs.Common.{◌≡◌, ℕ, ◌+◌, ◌-◌, ◌%◌, ◌^◌, ◌<◌, ◌≤◌, Bool, true, false, ltb, List, [], ◌∷◌, ◌++◌, length, take, drop, sym, ap, ◌∙◌, arith, length-append, take_all, drop-drop, le-ltb, lt-ltb, cond}
use mathlib.Core.List.{foldl}
use lib.Seq.{take-append_seam, drop-append-add}
use Rattle.session.specs.Lists.{packed}
use Rattle.session.specs.Records.{entered}
use Rattle.session.specs.Rules.{start_marks, enter, start_one}
use Rattle.session.specs.State.{view, with_players, relist, Starting, start_list, start_next, started_many}
use Rattle.session.specs.declared.PlayerRecord.{PlayerRecord}
use Rattle.session.specs.declared.Session.{Session}
use Rattle.session.specs.declared.Start.{Start}
use Rattle.session.specs.declared.Starts.{Starts}
use Rattle.session.proofs.Relist.{view-few}
use Rattle.session.proofs.Walks.{used-small}
use Rattle.session.proofs.Yield.{length-marks}

-- ---- a list put behind another

-- what was put in is the list, however many places the session has
pub view-put : (s : Session) (ks : List PlayerRecord) → length ks ≤ 512 → view (relist ks s) ≡ ks
view-put s ks h = ap (λ (n : ℕ). take n (packed ks s.players)) (used-small 512 (length ks) h) ∙ take-append_seam ks (drop (length ks) s.players)

-- of two lists the second stays, where it is no shorter
relist-longer : (s : Session) (ps qs : List PlayerRecord) → length ps ≤ length qs → relist qs (relist ps s) ≡ relist qs s
relist-longer s ps qs h =
    let more : length qs ≡ length ps + (length qs - length ps) = omega arith in
    ap (λ (l : List PlayerRecord). with_players (qs ++ l) (length qs) s)
    (ap (λ (k : ℕ). drop k (packed ps s.players)) more
    ∙ drop-append-add ps (drop (length ps) s.players) (length qs - length ps)
    ∙ drop-drop (length qs - length ps) (length ps) s.players
    ∙ ap (λ (k : ℕ). drop k s.players) (sym more))

enter-longer : (r : PlayerRecord) (rs : List PlayerRecord) → length rs ≤ length (enter r rs)
unfolding enter
enter-longer r rs = by-case (ltb (length rs) 512) where
  by-case : (t : Bool) → length rs ≤ length (cond t (rs ++ (r ∷ [])) rs)
  by-case true = omega (arith, length-append rs (r ∷ []))
  by-case false = omega arith

-- a record that enters behind a list put in enters behind that list
pub enter-after : (s m : Session) (ks : List PlayerRecord) (r : PlayerRecord) → length ks ≤ 512 → m ≡ relist ks s
    → relist (enter r (view m)) m ≡ relist (enter r ks) s
enter-after s m ks r h e =
    ap (λ (x : Session). relist (enter r (view x)) x) e
    ∙ ap (λ (l : List PlayerRecord). relist (enter r l) (relist ks s)) (view-put s ks h)
    ∙ relist-longer s ks (enter r ks) (enter-longer r ks)

-- ---- the starts of one event, in turn

-- m is the session with the marks of a start; a turn leaves the session t, k players and the next slot j
module _ (x : Starting) (st : Start) (m : Session) (m-is : m ≡ relist (start_marks st (view x.session)) x.session) (t : Session) (k j : ℕ) where
  marks-few : length (start_marks st (view x.session)) ≤ 512
  marks-few = omega (arith, length-marks st (view x.session), view-few x.session)

  pub turn-joins : (r : PlayerRecord) → x.held < 32 → r ≡ entered st x.slot → t ≡ relist (enter r (view m)) m → k ≡ x.held + 1
      → j ≡ (x.slot + 1) % 2 ^ 32 → record { session = t; held = k; slot = j } ≡ start_next x st
  unfolding start_next start_one
  turn-joins r h q e f g =
      let whole : t ≡ relist (enter (entered st x.slot) (start_marks st (view x.session))) x.session =
      e ∙ ap (λ y. relist (enter y (view m)) m) q ∙ enter-after x.session m (start_marks st (view x.session)) (entered st x.slot) marks-few m-is
      in rw (lt-ltb x.held 32 h, whole, f, g)

  pub turn-drops : 32 ≤ x.held → t ≡ m → k ≡ x.held → j ≡ x.slot → record { session = t; held = k; slot = j } ≡ start_next x st
  unfolding start_next start_one
  turn-drops h e f g = rw (le-ltb x.held 32 h, e ∙ m-is, f, g)

-- all the starts in use are done
pub turns-done : (b : Starts) (sts : List Start) (i : ℕ) (x y : Starting) → sts ≡ start_list b → length sts ≤ i → y ≡ foldl start_next x (take i sts)
    → y.session ≡ started_many (start_list b) x.held x.slot x.session
unfolding started_many
turns-done b sts i x y all h e = ap (λ (z : Starting). z.session) (e ∙ ap (foldl start_next x) (take_all i sts h ∙ all))
