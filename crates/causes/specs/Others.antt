-- What a voice asks of the session's list. Definitions only.
use Rattle.std.specs.List.{list_any, position}
use Rattle.std.specs.Prelude.{ℕ, ◌<◌, ◌≡◌, Bool, false, not, ◌&&◌, ◌||◌, List, length, leb, eqb, get_or, Option, Some, None}
use Rattle.session.specs.Offs.{first_at}
use Rattle.session.specs.Records.{of_voice, waits}
use Rattle.session.specs.State.{view}
use Rattle.session.specs.Tests.{stray_record, over_voice, slots_in_order}
use Rattle.session.specs.declared.PlayerRecord.{PlayerRecord}
use Rattle.session.specs.declared.Session.{Session}

-- the first place of a number in a list; past it where there is none
abbrev pub place_in : ℕ → List ℕ → ℕ
place_in k xs = first_at (λ x. eqb x k) xs

-- the same, where there is one
abbrev pub found_in : ℕ → List ℕ → Option ℕ
found_in k xs = position (λ x. eqb x k) xs

-- the first place of the number that stands there; none says nothing
abbrev pub IsPlace : List ℕ → Option ℕ → Type 0
IsPlace xs None = Unit {0}
IsPlace xs (Some k) = (k < length xs) × (k ≡ place_in (get_or xs k 0) xs)

-- of a region outside so many; no record is, where no number is given
abbrev pub outside : Option ℕ → PlayerRecord → Bool
outside None = λ r. false
outside (Some n) = λ r. leb n r.region

-- of the voice; no record is, where none is given
abbrev pub owned : Option ℕ → PlayerRecord → Bool
owned None = λ r. false
owned (Some id) = of_voice id

abbrev pub amiss : Option ℕ → Option ℕ → PlayerRecord → Bool
amiss n id r = outside n r || owned id r

-- no record of a voice not live, none more than 32 of one voice, none of a region outside n, and none of the voice itself
unfoldable pub others_fit : Option ℕ → Option ℕ → Session → Bool
others_fit n id s =
    not (stray_record s) && (not (over_voice s) && (not (list_any (outside n) (view s)) && not (list_any (owned id) (view s))))

-- the same with records of the voice: they have the slots ks in order
unfoldable pub list_fits : ℕ → ℕ → List ℕ → Session → Bool
list_fits n id ks s = others_fit (Some n) None s && slots_in_order id ks s

-- an off time waits on a record of the voice
abbrev pub off_waits : ℕ → Session → Bool
off_waits id s = list_any (waits id) (view s)
