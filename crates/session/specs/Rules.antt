-- The rules of the session's list, on the records in use in their order.
use Rattle.std.specs.Prelude.{ℕ, zero, suc, ◌-◌, Bool, not, List, [], ◌∷◌, ◌++◌, map, length, ◌==◌, nat_le, nat_lt, None, Option, Some, cond, filter, count_by, if◌then◌else◌}
use Rattle.std.specs.List.{reduce}
use Rattle.session.specs.declared.PlayerRecord.{PlayerRecord}
use Rattle.session.specs.declared.Start.{Start}
use Rattle.session.specs.Lists.{change_if, change_where, change_first}
use Rattle.session.specs.Records.{marked, ended, collected, entered, choked_by, shares_note, may_yield, of_region, is_sister, quieter, older, of_voice, in_slots, waits}

-- ---- what a starting region marks

-- one record
unfoldable pub choke_one : Start → PlayerRecord → PlayerRecord
choke_one st r = change_if (choked_by st) (marked st.at) r

-- every unmarked note-on record whose off_by is its group, save those with both its group and its note
unfoldable pub choke : Start → List PlayerRecord → List PlayerRecord
choke st rs = change_where (choked_by st) (marked st.at) rs

-- all unmarked records of the voice and the start
unfoldable pub mark_sisters : ℕ → ℕ → ℕ → List PlayerRecord → List PlayerRecord
mark_sisters v b at rs = change_where (is_sister v b) (marked at) rs

-- among the records that p holds of, the lowest; of several the earliest in the list
abbrev pub lowest : (PlayerRecord → Bool) → (PlayerRecord → PlayerRecord → Bool) → List PlayerRecord → Option PlayerRecord
lowest p lower rs = reduce (λ best r. if lower r best then r else best) (filter p rs)

-- where none qualifies the list stays as it is; else it goes on with the one found
abbrev pub or_stop : Option PlayerRecord → List PlayerRecord → (PlayerRecord → List PlayerRecord) → List PlayerRecord
or_stop None rs f = rs
or_stop (Some c) rs f = f c

-- k times: among those no louder than the new note the lowest velocity, then the lowest start, then the earliest in the list, is
-- marked with all unmarked records of its voice and start. It stops where none qualifies.
unfoldable pub yield_up : Start → ℕ → List PlayerRecord → List PlayerRecord
yield_up st zero rs = rs
yield_up st (suc k) rs =
    or_stop (lowest (may_yield st) quieter rs) rs (λ c. yield_up st k (mark_sisters c.voice c.start st.at rs))

-- a limit of 0 acts as 1
abbrev pub at_least_one : ℕ → ℕ
at_least_one n = cond (n == 0) 1 n

-- how often the count falls by one until no more than n - 1 are left
abbrev pub surplus_of : ℕ → ℕ → ℕ
surplus_of count n = count - (at_least_one n - 1)

abbrev pub limit_note : Option ℕ → Start → List PlayerRecord → List PlayerRecord
limit_note None st rs = rs
limit_note (Some n) st rs = yield_up st (surplus_of (count_by (shares_note st) rs) n) rs

-- while more than n - 1 unmarked records share group and note, one yields. The count falls by one each time, however many are marked
unfoldable pub after_note_polyphony : Start → List PlayerRecord → List PlayerRecord
after_note_polyphony st rs = limit_note st.note_polyphony st rs

-- among those of its region the one with the lowest start, then the earliest in the list, is marked likewise
unfoldable pub end_oldest : Start → List PlayerRecord → List PlayerRecord
end_oldest st rs = or_stop (lowest (of_region st) older rs) rs (λ c. mark_sisters c.voice c.start st.at rs)

abbrev pub limit_region : Option ℕ → Start → List PlayerRecord → List PlayerRecord
limit_region None st rs = rs
limit_region (Some p) st rs = cond (nat_le p (count_by (of_region st) rs)) (end_oldest st rs) rs

-- if at least p unmarked records have this region, the one with the lowest start, likewise
unfoldable pub polyphony : Start → List PlayerRecord → List PlayerRecord
polyphony st rs = limit_region st.polyphony st rs

-- what a starting region, dropped or not, marks: the choke, then note polyphony, then polyphony
unfoldable pub start_marks : Start → List PlayerRecord → List PlayerRecord
start_marks st rs = polyphony st (after_note_polyphony st (choke st rs))

-- ---- entering and removing

-- one more record at the end. A list of 512 stays as it is
unfoldable pub enter : PlayerRecord → List PlayerRecord → List PlayerRecord
enter r rs = cond (nat_lt (length rs) 512) (rs ++ (r ∷ [])) rs

-- what a starting region marks, and then, where its voice has room, its record in this slot at the end
unfoldable pub start_one : Start → Bool → ℕ → List PlayerRecord → List PlayerRecord
start_one st room slot rs = cond room (enter (entered st slot) (start_marks st rs)) (start_marks st rs)

-- without the voice's records, the others in their order
unfoldable pub without_voice : ℕ → List PlayerRecord → List PlayerRecord
without_voice v rs = filter (λ r. not (of_voice v r)) rs

-- without the voice's records in these slots, the others in their order
unfoldable pub without_slots : ℕ → List ℕ → List PlayerRecord → List PlayerRecord
without_slots v ks rs = filter (λ r. not (in_slots v ks r)) rs

-- ---- a voice's own off times

-- each off time of the voice is taken
unfoldable pub collect : ℕ → List PlayerRecord → List PlayerRecord
collect v rs = change_where (waits v) collected rs

-- the first off time of the voice is taken
unfoldable pub collect_first : ℕ → List PlayerRecord → List PlayerRecord
collect_first v rs = change_first (waits v) collected rs

-- the voice's records in these slots have ended
unfoldable pub mark_ended : ℕ → List ℕ → List PlayerRecord → List PlayerRecord
mark_ended v ks rs = change_where (in_slots v ks) ended rs

-- the slots of the voice's records, in list order
abbrev pub slots_of : ℕ → List PlayerRecord → List ℕ
slots_of v rs = map (λ r. r.slot) (filter (of_voice v) rs)
