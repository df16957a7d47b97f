-- A voice's own off times, as the session hands them out.
use Rattle.std.specs.Prelude.{ℕ, zero, suc, ◌+◌, Bool, List, [], ◌∷◌, map, length, take, replicate, nat_lt, slice_set, unwrap_or, slice_get, cond, filter, None, Option, Some}
use Rattle.session.specs.declared.Off.{Off}
use Rattle.session.specs.declared.Offs.{Offs}
use Rattle.session.specs.declared.Collected.{Collected}
use Rattle.session.specs.declared.Took.{Took}
use Rattle.session.specs.declared.PlayerRecord.{PlayerRecord}
use Rattle.session.specs.declared.Session.{Session}
use Rattle.session.specs.Lists.{packed}
use Rattle.session.specs.Records.{waits}
use Rattle.session.specs.Rules.{collect, collect_first}
use Rattle.session.specs.State.{view, relist}

-- the record's slot and its off time
abbrev pub off_of : PlayerRecord → Off
off_of r = record { slot = r.slot; at = unwrap_or r.off_at 0 }

-- the same where the record is the voice's and its off time waits
unfoldable pub off_for : ℕ → PlayerRecord → Option Off
off_for v r = cond (waits v r) (Some (off_of r)) None

-- the voice's off times that wait, each with its slot, in list order
abbrev pub off_times : ℕ → List PlayerRecord → List Off
off_times v rs = map off_of (filter (waits v) rs)

abbrev pub no_off : Off
no_off = record { slot = 0; at = 0 }

-- the first 32 of them in front, their number, and nothing behind
abbrev pub offs_of : List Off → Offs
offs_of os = record { offs = packed (take 32 os) (replicate 32 no_off); count = length (take 32 os) }

-- one more, where there is room
unfoldable pub add_off : Off → Offs → Offs
add_off o q = cond (nat_lt q.count 32) (record { offs = slice_set q.offs q.count o; count = q.count + 1 }) q

-- each off time of the voice is cleared, and handed out with its slot
unfoldable pub collected_offs : ℕ → Session → Collected
collected_offs v s = record { session = relist (collect v (view s)) s; offs = offs_of (off_times v (view s)) }

-- the first of them is cleared, and handed out with its slot
unfoldable pub took_first : ℕ → Session → Took
took_first v s = record { session = relist (collect_first v (view s)) s; first = slice_get (off_times v (view s)) 0 }

-- the place of the first element that p holds of; past the end where there is none
abbrev pub first_at : {A : Type 0} → (A → Bool) → List A → ℕ
first_at p [] = zero
first_at p (x ∷ xs) = cond (p x) zero (suc (first_at p xs))
