-- What one move keeps, and hence a chain of moves. Assumes nothing.
use Rattle.std.specs.List.{list_any}
use Rattle.std.specs.Prelude.{filter}
use Prim.Native.Nat.{ℕ, ◌+◌}
use mathlib.Core.Path.{◌≡◌, refl, ◌∙◌, ap}
use mathlib.Core.Bool.{Bool, true, false, not}
use mathlib.Core.List.{List, ◌++◌}
use native.Mathlib.Omega.{arith}
use lib.ListN.{length, length-append}
use Rattle.session.specs.Lists.{elem}
use Rattle.session.specs.State.{view}
use Rattle.session.proofs.Laws.{slots-along}
use Rattle.std.proofs.lemmas.List.Elements.{filter-append}
use Rattle.events.specs.declared.Both.{Both}
use Rattle.run.specs.Run.{records_of, Follows, is_dropped, players_in, drops_in}
use Rattle.run.specs.Starts.{Started}
use Rattle.run.proofs.Moves.{Keeps, Move, starts, reaps, keeps, Moves, done, next, Kept}
use Rattle.run.proofs.Rows.{Row, changed, own-voice, own-slot, elsewhere-along, row-follows, follows_then, row-stray}
use Rattle.run.proofs.Joining.{kept_same, kept_at, kept-start, row-start, voices-start}
use Rattle.run.proofs.Leaving.{kept-reaped, row-reaped, voices-reaped}

-- ---- one move

kept-keeps : (id s d : ℕ) (b c : Both) → Keeps id b c → Kept id s d b → Kept id s d c
kept-keeps id s d b c k h =
    kept_same id s d d b c h k.shape k.next (k.dropped ∙ h.dropped) (slots-along id own-voice own-slot k.list) k.slots
    (elsewhere-along id own-voice k.list)

nothing-more : (id s d : ℕ) (b : Both) → Kept id s d b → Kept id (s + 0) (d + 0) b
nothing-more id s d b h = kept_at id s d (s + 0) (d + 0) b (omega arith) (omega arith) h

kept_move : {id : ℕ} {b c : Both} {xs : List Started} (s d : ℕ) → Move id b xs c → Kept id s d b → Kept id (s + players_in xs) (d + drops_in xs) c
kept_move {id = id} s d (starts k n c i b) h = kept-start k n c i b id s d h
kept_move {id = id} s d (reaps b) h = nothing-more id s d _ (kept-reaped b id s d h)
kept_move {id = id} s d (keeps {b} {c} k) h = nothing-more id s d c (kept-keeps id s d b c k h)

row_move : {id : ℕ} {b c : Both} {xs : List Started} (s d : ℕ) → Move id b xs c → Kept id s d b → Row id (view b.session) xs (view c.session)
row_move {id = id} s d (starts k n c i b) h = row-start k n c i b id s d h
row_move {id = id} s d (reaps b) h = row-reaped b id s d h
row_move s d (keeps k) h = changed k.list

voices-move : {id : ℕ} {b c : Both} {xs : List Started} → Move id b xs c → c.session.voices ≡ b.session.voices
voices-move (starts k n c i b) = voices-start k n c i b
voices-move (reaps b) = voices-reaped b
voices-move (keeps k) = k.voices

-- ---- a chain of moves

number-both : (p : Started → Bool) (xs ys : List Started) → length (filter p (xs ++ ys)) ≡ length (filter p xs) + length (filter p ys)
number-both p xs ys = ap length (filter-append p xs ys) ∙ length-append (filter p xs) (filter p ys)

-- what a voice keeps, with the players that it started and the starts that were dropped
pub kept : {id s d : ℕ} {b c : Both} {xs : List Started} → Moves id b xs c → Kept id s d b → Kept id (s + players_in xs) (d + drops_in xs) c
kept {id = id} {s = s} {d = d} (done {b}) h = nothing-more id s d b h
kept {id = id} {s = s} {d = d} (next {d = e} {xs = xs} {ys = ys} m ms) h =
    kept_at id (s + players_in xs + players_in ys) (d + drops_in xs + drops_in ys) (s + players_in (xs ++ ys)) (d + drops_in (xs ++ ys)) e
    (omega (arith, number-both (λ x. not (is_dropped x)) xs ys)) (omega (arith, number-both is_dropped xs ys))
    (kept {s = s + players_in xs} {d = d + drops_in xs} ms (kept_move s d m h))

-- the starts mark the records of another voice one after the other, and nothing else changes them
pub others : {id s d : ℕ} {b c : Both} {xs : List Started} → Moves id b xs c → Kept id s d b → (j : ℕ) → (j ≡ id → ⊥)
    → Follows j xs (records_of j (view b.session)) (records_of j (view c.session))
others done h j n = refl
others {id = id} {s = s} {d = d} (next {b = b} {c = c} {d = e} {xs = xs} {ys = ys} m ms) h j n =
    follows_then j xs ys (records_of j (view b.session)) (records_of j (view c.session)) (records_of j (view e.session))
    (row-follows id j n (row_move s d m h))
    (others {s = s + players_in xs} {d = d + drops_in xs} ms (kept_move s d m h) j n)

-- no voice is made or closed
pub voices-same : {id : ℕ} {b c : Both} {xs : List Started} → Moves id b xs c → c.session.voices ≡ b.session.voices
voices-same done = refl
voices-same (next m ms) = voices-same ms ∙ voices-move m

-- no record comes in of a voice outside
pub no-stray-after : {id s d : ℕ} {b c : Both} {xs : List Started} → Moves id b xs c → Kept id s d b → (is : List ℕ) → elem id is ≡ true
    → list_any (λ r. not (elem r.voice is)) (view b.session) ≡ false → list_any (λ r. not (elem r.voice is)) (view c.session) ≡ false
no-stray-after done h is live e = e
no-stray-after {s = s} {d = d} (next {xs = xs} m ms) h is live e =
    no-stray-after {s = s + players_in xs} {d = d + drops_in xs} ms (kept_move s d m h) is live (row-stray is live (row_move s d m h) e)
