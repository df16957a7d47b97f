-- What a session must not be like, each cause by itself; and whether a release region's note still has its attack.
use Rattle.std.specs.List.{list_any}
use Rattle.std.specs.Prelude.{ℕ, Bool, true, false, not, List, [], ◌∷◌, ◌==◌, nat_le, nat_lt, count_by, cond}
use Rattle.session.specs.declared.Session.{Session}
use Rattle.session.specs.declared.Window.{Window}
use Rattle.session.specs.Lists.{elem, twice}
use Rattle.session.specs.Records.{of_voice, in_window}
use Rattle.session.specs.Rules.{slots_of}
use Rattle.session.specs.State.{view, live_ids}

-- the voice is live in the session
unfoldable pub is_live : ℕ → Session → Bool
is_live id s = elem id (live_ids s.voices)

-- above 16 live voices
abbrev pub over_live : Session → Bool
over_live s = nat_lt 16 s.voices.count

-- two live voices with one id
unfoldable pub twice_live : Session → Bool
twice_live s = twice (live_ids s.voices)

-- a record of a voice not live
unfoldable pub stray_record : Session → Bool
stray_record s = list_any (λ r. not (elem r.voice (live_ids s.voices))) (view s)

-- above 512 records
abbrev pub over_records : Session → Bool
over_records s = nat_lt 512 s.count

-- above 32 records of one live voice
unfoldable pub over_voice : Session → Bool
over_voice s = list_any (λ id. nat_lt 32 (count_by (of_voice id) (view s))) (live_ids s.voices)

-- held above 16
abbrev pub over_held : Session → Bool
over_held s = nat_lt 16 s.held

-- a record whose region is outside a program of n regions
unfoldable pub region_outside : ℕ → Session → Bool
region_outside n s = list_any (λ r. nat_le n r.region) (view s)

-- the same numbers in the same order
abbrev pub same_list : List ℕ → List ℕ → Bool
same_list [] [] = true
same_list [] (k ∷ ks) = false
same_list (i ∷ is) [] = false
same_list (i ∷ is) (k ∷ ks) = cond (i == k) (same_list is ks) false

-- the voice's records are its players' slots, in order
unfoldable pub slots_in_order : ℕ → List ℕ → Session → Bool
slots_in_order v ks s = same_list (slots_of v (view s)) ks

-- some note-on record, marked or not, has its note and velocity in the window
unfoldable pub attack_playing : Window → Session → Bool
attack_playing w s = list_any (in_window w) (view s)
