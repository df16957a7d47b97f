-- Each definition of events and blocks is a chain of moves with the starts that specs/Starts gives it. Assumes nothing.
use Rattle.std.proofs.Common.{None, Option, Some, cond}
use Rattle.session.specs.declared.Off.{Off}
use Prim.Native.Nat.{ℕ, zero, suc}
use mathlib.Core.Path.{refl}
use mathlib.Core.Bool.{Bool, true, false}
use mathlib.Core.List.{List, [], ◌∷◌, ◌++◌}
use Rattle.exact.specs.Random.{drawn}
use Rattle.session.specs.Offs.{took_first}
use Rattle.session.specs.State.{serial_up, held_down, with_seq}
use Rattle.note.specs.Choice.{choosing_on, chosen_off}
use Rattle.note.specs.Note.{note_state}
use Rattle.note.specs.declared.NoteState.{NoteState}
use Rattle.note.specs.declared.Strike.{Strike}
use Rattle.players.specs.Gate.{released_all, offed_slot, ignored, fires}
use Rattle.gates.specs.Gate.{risen, hit_at, attack_cause, note_started, noted_on, let_go_both, let_go_note, noted_off}
use Rattle.gates.specs.Off.{reaped_both, fired_note, may_fire, choke_fires, applied_off, acts_on, is_taken, took_own, own_offs}
use Rattle.events.specs.Start.{start_in, started_region, started_all, release_cause, releases_fired, fired_for, dispatched_release}
use Rattle.events.specs.Voice.{Kit, with_players, with_note, struck, ungated}
use Rattle.events.specs.declared.Both.{Both}
use Rattle.events.specs.declared.Cause.{Cause}
use Rattle.run.specs.Starts.{Started, started_on, starts_of_all, starts_of_release, starts_for, starts_of_dispatch, starts_of_choke, starts_of_off, starts_of_first, starts_of_own, starts_of_note, starts_of_note_on, starts_of_note_off}
use Rattle.run.proofs.Moves.{Shape, Keeps, starts, reaps, keeps, Moves, done, next}
use Rattle.run.proofs.Shapes.{chain, shape-after}
use Rattle.run.proofs.Stays.{keeps_same, keeps-took, keeps-released, keeps-offed}

-- a chain from a voice and session of the shape
abbrev pub Turns : ℕ → Both → List Started → Both → Type 0
Turns id b xs c = Shape id b → Moves id b xs c

module _ {id : ℕ} where
  pub stay : {b : Both} → Turns id b [] b
  stay h = done

  pub then : {b c d : Both} {xs ys : List Started} → Turns id b xs c → Turns id c ys d → Turns id b (xs ++ ys) d
  then f g h = let m = f h in chain m (g (shape-after m h))

  pub kept : {b c : Both} → (Shape id b → Keeps id b c) → Turns id b [] c
  kept f h = next (keeps (f h)) done

  pub reap : (b : Both) → Turns id b [] (reaped_both b)
  reap b h = next (reaps b) done

  -- two ways, each with its starts
  pub either : {A : Type 0} (f : A → Both) {b : Both} {xs ys : List Started} {x y : A} (t : Bool) → Turns id b xs (f x) → Turns id b ys (f y)
      → Turns id b (cond t xs ys) (f (cond t x y))
  either f true g k = g
  either f false g k = k

  -- two ways with the same starts
  pub either-one : {A : Type 0} (f : A → Both) {b : Both} {xs : List Started} {x y : A} (t : Bool) → Turns id b xs (f x) → Turns id b xs (f y)
      → Turns id b xs (f (cond t x y))
  either-one f true g k = g
  either-one f false g k = k

abbrev pub itself : Both → Both
itself b = b

module _ (id : ℕ) (k : Kit) where
  -- ---- starts

  pub begin : (n : NoteState) (c : Cause) (b : Both) (i : ℕ) → Turns id b (started_on (start_in k n c b.voice i) b ∷ []) (started_region k n c b i)
  begin n c b i h = next (starts k n c i b) done

  pub all-chain : (n : NoteState) (c : Cause) (is : List ℕ) (b : Both) → Turns id b (starts_of_all k n c is b) (started_all k n c is b)
  unfolding starts_of_all started_all
  all-chain n c [] b = stay
  all-chain n c (i ∷ is) b = then (begin n c b i) (all-chain n c is (started_region k n c b i))

  pub release-chain : (m : ℕ) (n : NoteState) (at : ℕ) (b : Both) → Turns id b (starts_of_release k m n at b) (releases_fired k m n at b)
  unfolding starts_of_release releases_fired
  release-chain m n at b =
      let s = serial_up b.session in
      let c : Both = record { session = s; voice = b.voice } in
      then (kept (keeps_same id b c refl refl refl refl refl refl refl))
      (all-chain n (release_cause n at b.voice.sample_rate s) (chosen_off k.words m n.note n.vel (drawn n.seed s.event_serial 0) s) c)

  pub dispatch-chain : (m at : ℕ) (b : Both) → Turns id b (starts_of_dispatch k m at b) (dispatched_release k m at b)
  unfolding starts_of_dispatch dispatched_release
  dispatch-chain m at b = by-case b.voice.note where
    by-case : (n : Option NoteState) → Turns id b (starts_for k m at n b) (fired_for k m at n b)
    by-case None = stay
    by-case (Some n) = release-chain m n at b

  -- ---- off marks

  pub choke-chain : (m at : ℕ) (fires : Bool) (b : Both) → Turns id b (starts_of_choke k m at fires b) (choke_fires k m at fires b)
  unfolding starts_of_choke choke_fires
  choke-chain m at fires b =
      let c : Both = record { session = b.session; voice = with_note (fired_note b.voice.note) b.voice } in
      either itself (may_fire fires b.voice) (then (kept (keeps_same id b c refl refl refl refl refl refl refl)) (dispatch-chain m at c)) stay

  pub off-chain : (m slot at : ℕ) (b : Both) → Turns id b (starts_of_off k m slot at b) (applied_off k m slot at b)
  unfolding starts_of_off applied_off
  off-chain m slot at b =
      let o = offed_slot slot b.voice.players in
      let c : Both = record { session = b.session; voice = with_players o.players b.voice } in
      either itself (ignored o.mark) stay (then (kept (λ h. keeps-offed id b h slot)) (then (reap c) (choke-chain m at (fires o.mark) (reaped_both c))))

  pub took-chain : (m : ℕ) (b : Both)
      → Turns id b (starts_of_first k m (took_first b.voice.voice b.session).first (record { session = (took_first b.voice.voice b.session).session; voice = b.voice })) (took_own k m b)
  unfolding took_own
  took-chain m b = then (kept (keeps-took id b)) (by-case (took_first b.voice.voice b.session).first) where
    c : Both
    c = record { session = (took_first b.voice.voice b.session).session; voice = b.voice }

    by-case : (o : Option Off) → Turns id c (starts_of_first k m o c) (acts_on k m o c)
    by-case None = stay
    by-case (Some o) = off-chain m o.slot o.at c

  pub own-chain : (m turns : ℕ) (b : Both) → Turns id b (starts_of_own k m turns b) (own_offs k m turns b)
  unfolding starts_of_own own_offs
  own-chain m zero b = stay
  own-chain m (suc turns) b =
      either itself (is_taken (took_first b.voice.voice b.session).first) (then (took-chain m b) (own-chain m turns (took_own k m b))) stay

  -- ---- a gate's edge

  pub note-chain : (m : ℕ) (n : NoteState) (at : ℕ) (b : Both) → Turns id b (starts_of_note k m n at b) (note_started k m n at b)
  unfolding starts_of_note note_started
  note-chain m n at b =
      let s = risen b.session in
      let c = choosing_on (hit_at k.words n s) m n.note s.seq in
      let d : Both = record { session = with_seq c.seq s; voice = struck n b.voice } in
      then (kept (keeps_same id b d refl refl refl refl refl refl refl)) (all-chain n (attack_cause at s) c.regions d)

  pub on_chain : (m : ℕ) (x : Strike) (b : Both) → Turns id b (starts_of_note_on k m x b) (noted_on k m x b)
  unfolding starts_of_note_on noted_on
  on_chain m x b = then (note-chain m (note_state x) x.at b) (own-chain m 128 (note_started k m (note_state x) x.at b))

  pub let-go-chain : (b : Both) → Turns id b [] (let_go_both b)
  unfolding let_go_both
  let-go-chain b =
      let r = released_all b.voice.players in
      let c : Both = record { session = b.session; voice = with_players r.players b.voice } in
      then (kept (keeps-released id b)) (either-one itself r.killed (reap c) stay)

  pub fall-chain : (m at : ℕ) (b : Both) → Turns id b (starts_of_note_off k m at b) (noted_off k m at b)
  unfolding starts_of_note_off noted_off let_go_note
  fall-chain m at b =
      let c : Both = record { session = held_down b.session; voice = ungated b.voice } in
      either itself b.voice.gate_held
      (then (kept (keeps_same id b c refl refl refl refl refl refl refl)) (then (let-go-chain c) (dispatch-chain m at (let_go_both c)))) stay
