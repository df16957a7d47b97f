-- One rule after another on the session is the rules one after another on its list. Assumes nothing.
use Rattle.std.proofs.Common.{◌≡◌, ℕ, ◌≤◌, List, length, sym, ap, ◌∙◌, arith}
use Rattle.session.proofs.Relist.{relist-again, view-relist, view-few}
use Rattle.session.proofs.Yield.{length-choke, length-note, length-polyphony}
use Rattle.session.specs.Rules.{choke, after_note_polyphony, polyphony, start_marks}
use Rattle.session.specs.State.{view, relist}
use Rattle.session.specs.declared.PlayerRecord.{PlayerRecord}
use Rattle.session.specs.declared.Session.{Session}
use Rattle.session.specs.declared.Start.{Start}

-- a list rule on the session that another has left
pub relist-then : (s t : Session) (ps : List PlayerRecord) (f : List PlayerRecord → List PlayerRecord) → length s.players ≡ 512
    → length ps ≤ 512 → ((rs : List PlayerRecord) → length (f rs) ≡ length rs) → t ≡ relist ps s → relist (f (view t)) t ≡ relist (f ps) s
relist-then s t ps f size h same e =
    ap (λ (x : Session). relist (f (view x)) x) e
    ∙ ap (λ (l : List PlayerRecord). relist (f l) (relist ps s)) (view-relist s size ps h)
    ∙ relist-again s ps (f ps) (sym (same ps))

-- the three rules of a start, each on the session that the one before has left
pub marks-in-turn : (st : Start) (s a b r : Session) → length s.players ≡ 512 → a ≡ relist (choke st (view s)) s
    → b ≡ relist (after_note_polyphony st (view a)) a → r ≡ relist (polyphony st (view b)) b → r ≡ relist (start_marks st (view s)) s
unfolding start_marks
marks-in-turn st s a b r size e f g =
    let h : length (choke st (view s)) ≤ 512 = omega (arith, length-choke st (view s), view-few s) in
    let k : length (after_note_polyphony st (choke st (view s))) ≤ 512 = omega (arith, length-note st (choke st (view s))) in
    let then : b ≡ relist (after_note_polyphony st (choke st (view s))) s = f ∙ relist-then s a (choke st (view s)) (after_note_polyphony st) size h (length-note st) e in
    g ∙ relist-then s b (after_note_polyphony st (choke st (view s))) (polyphony st) size k (length-polyphony st) then
