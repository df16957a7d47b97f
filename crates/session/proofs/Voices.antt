-- The live voices, and the session's numbers. Assumes nothing.
use Rattle.std.proofs.Common.{◌≡◌, ℕ, ◌+◌, ◌%◌, ◌^◌, ◌<◌, ◌≤◌, Bool, true, false, not, ◌&&◌, eqb, ltb, leb, List, [], ◌∷◌, ◌++◌, length, get_or, take, drop, set, sym, refl, ap, ◌∙◌, arith, length-append, length-take-le, ltb-true, leb-true, None, Some, cond, filter}
use lib.Seq.{set_out, take-append_seam}
use Rattle.session.specs.Lists.{packed, used_of}
use Rattle.session.specs.State.{live_ids, relive, has_place, placed, freed, opened, ended_voice, with_voices, seq_stepped, seq_hit}
use Rattle.session.specs.declared.LiveVoices.{LiveVoices}
use Rattle.session.specs.declared.Sequences.{Sequences}
use Rattle.session.specs.declared.Session.{Session}
use Rattle.session.proofs.Packing.{put-behind}
use Rattle.session.proofs.Relist.{packed-size, packed-within, take-few, keep-fewer}
use Rattle.session.proofs.Walks.{used-below, used-small}

and_left : (a b : Bool) → a && b ≡ true → a ≡ true
and_left true b e = refl
and_left false b e = e

and_right : (a b : Bool) → a && b ≡ true → b ≡ true
and_right true b e = e
and_right false b e = cc

module _ (v : LiveVoices) (h : has_place v ≡ true) where
  pub place-count : v.count < 16
  place-count = ltb-true v.count 16 (and_left (ltb v.count 16) (leb v.next_voice (2 ^ 63)) h)

  pub place-next : v.next_voice ≤ 2 ^ 63
  place-next = leb-true v.next_voice (2 ^ 63) (and_right (ltb v.count 16) (leb v.next_voice (2 ^ 63)) h)

  -- the id stored behind the others
  pub place-taken : length v.ids ≡ 16
      → record { ids = set v.ids v.count v.next_voice; count = v.count + 1; next_voice = v.next_voice + 1 } ≡ placed v
  unfolding placed
  place-taken size =
      let few = place-count in
      let all : live_ids v ≡ take v.count v.ids = ap (λ k. take k v.ids) (used-small 16 v.count (omega arith)) in
      let m : length (take v.count v.ids ++ (v.next_voice ∷ [])) ≡ v.count + 1 = length-append (take v.count v.ids) (v.next_voice ∷ []) ∙ ap (λ k. k + 1) (length-take-le v.count v.ids (omega arith)) in
      sym (ap (λ l. relive (l ++ (v.next_voice ∷ [])) (v.next_voice + 1) v) all
      ∙ ap (λ k. record { ids = packed (take v.count v.ids ++ (v.next_voice ∷ [])) v.ids; count = k; next_voice = v.next_voice + 1 }) m
      ∙ ap (λ l. record { ids = l; count = v.count + 1; next_voice = v.next_voice + 1 }) (sym (put-behind v.ids v.count v.next_voice (omega arith))))

-- what the test of `new_voice` tells
module _ (s : Session) (b : Bool) (told : b ≡ has_place s.voices) where
  pub open-not : b ≡ false → record { session = s; id = None } ≡ opened s
  unfolding opened
  open-not h =
      sym (ap (λ t. cond t (record { session = with_voices (placed s.voices) s; id = Some s.voices.next_voice }) (record { session = s; id = None })) (sym told ∙ h))

  pub open-new : b ≡ true → (w : LiveVoices) → w ≡ placed s.voices
      → record { session = with_voices w s; id = Some s.voices.next_voice } ≡ opened s
  unfolding opened
  open-new h w e =
      ap (λ x. record { session = with_voices x s; id = Some s.voices.next_voice }) e
      ∙ sym (ap (λ t. cond t (record { session = with_voices (placed s.voices) s; id = Some s.voices.next_voice }) (record { session = s; id = None })) (sym told ∙ h))

abbrev pub others : ℕ → ℕ → Bool
others id x = not (eqb x id)

-- the ids that stay have moved up among those in use
pub freed-done : (id : ℕ) (v : LiveVoices) (n : ℕ) → n ≡ used_of 16 v.count → (front back : List ℕ) → length front ≡ n → front ≡ take n v.ids
    → back ≡ drop n v.ids → (ks : List ℕ) (k : ℕ) → (ks ≡ packed (filter (others id) front) front) × (k ≡ length (filter (others id) front))
    → record { ids = ks ++ back; count = k; next_voice = v.next_voice } ≡ freed id v
unfolding freed
freed-done id v n told front back m e f ks k h =
    ap (λ l. record { ids = l ++ back; count = k; next_voice = v.next_voice }) h.0
    ∙ ap (λ l. record { ids = l; count = k; next_voice = v.next_voice })
    (packed-within (filter (others id) front) front v.ids back n m e f (omega (arith, keep-fewer (others id) front, m)))
    ∙ ap (λ q. record { ids = packed (filter (others id) front) v.ids; count = q; next_voice = v.next_voice }) h.1
    ∙ ap (λ l. relive (filter (others id) l) v.next_voice v) (e ∙ ap (λ q. take q v.ids) told)

-- a region past the counters
pub no-counter : (r len at : ℕ) (q : Sequences) → length q.seq_counter ≡ 256 → length q.seq_on ≡ 256 → 256 ≤ r → q ≡ seq_stepped r len at q
unfolding seq_stepped
no-counter r len at q a b h =
    ap (λ l. record { seq_counter = l; seq_on = q.seq_on }) (sym (set_out q.seq_counter r ((get_or q.seq_counter r 0 + 1) % 2 ^ 32) (omega arith)))
    ∙ ap (λ l. record { seq_counter = set q.seq_counter r ((get_or q.seq_counter r 0 + 1) % 2 ^ 32); seq_on = l })
    (sym (set_out q.seq_on r (seq_hit (get_or q.seq_counter r 0) len at) (omega arith)))

pub counted-on : (r len at : ℕ) (q : Sequences) (c : ℕ) (b : Bool) → c ≡ (get_or q.seq_counter r 0 + 1) % 2 ^ 32
    → b ≡ seq_hit (get_or q.seq_counter r 0) len at
    → record { seq_counter = set q.seq_counter r c; seq_on = set q.seq_on r b } ≡ seq_stepped r len at q
unfolding seq_stepped
counted-on r len at q c b e f =
    ap (λ x. record { seq_counter = set q.seq_counter r x; seq_on = set q.seq_on r b }) e
    ∙ ap (λ x. record { seq_counter = set q.seq_counter r ((get_or q.seq_counter r 0 + 1) % 2 ^ 32); seq_on = set q.seq_on r x }) f

-- the end of a voice's notes leaves the live voices as they are
pub ended-voices : (v : ℕ) (gate : Bool) (s : Session) → (ended_voice v gate s).voices ≡ s.voices
unfolding ended_voice
ended-voices v true s = refl
ended-voices v false s = refl

-- ---- laws of the live voices, for the crates above

-- the live voices that were put in are the live voices
pub live-relive : (is : List ℕ) (next : ℕ) (v : LiveVoices) → length is ≤ 16 → live_ids (relive is next v) ≡ is
live-relive is next v h =
    ap (λ n. take n (packed is v.ids)) (used-small 16 (length is) h) ∙ take-append_seam is (drop (length is) v.ids)

pub size-relive : (is : List ℕ) (next : ℕ) (v : LiveVoices) → length v.ids ≡ 16 → length is ≤ 16 → length (relive is next v).ids ≡ 16
size-relive is next v size h = packed-size is v.ids (omega arith) ∙ size

live-few : (v : LiveVoices) → length (live_ids v) ≤ used_of 16 v.count
live-few v = take-few (used_of 16 v.count) v.ids

-- a new voice is one more at the end, with the next id, and the id after it is next
pub live-placed : (v : LiveVoices) → has_place v ≡ true → live_ids (placed v) ≡ live_ids v ++ (v.next_voice ∷ [])
unfolding placed
live-placed v h =
    let few = place-count v h in
    live-relive (live_ids v ++ (v.next_voice ∷ [])) (v.next_voice + 1) v
    (omega (arith, length-append (live_ids v) (v.next_voice ∷ []), live-few v, used-small 16 v.count (omega arith)))

pub next-placed : (v : LiveVoices) → (placed v).next_voice ≡ v.next_voice + 1
unfolding placed
next-placed v = refl

-- a freed place takes the voice out, and the next id stays
pub live-freed : (id : ℕ) (v : LiveVoices) → live_ids (freed id v) ≡ filter (others id) (live_ids v)
unfolding freed
live-freed id v =
    live-relive (filter (others id) (live_ids v)) v.next_voice v
    (omega (arith, keep-fewer (others id) (live_ids v), live-few v, used-below 16 v.count))

pub next-freed : (id : ℕ) (v : LiveVoices) → (freed id v).next_voice ≡ v.next_voice
unfolding freed
next-freed id v = refl
