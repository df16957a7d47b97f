-- The fields of the block lister's lines that give words of a region, a row for each, and those words (docs/PROGRAM.md). Definitions only.
use Rattle.std.specs.Prelude.{ℕ, ◌+◌, Bool, true, false, cond, ◌&&◌, List, [], ◌∷◌, ◌++◌, length, set, Option, Some, None, is_some, option_map, unwrap_or, pos}
use Rattle.std.specs.Float.{binary32}
use Rattle.std.specs.Float.Ieee.{to_bits}
use Rattle.program.specs.Region.{float_of}
use Rattle.lines.specs.declared.rows.Form.{Form}
use Rattle.lines.specs.declared.rows.Form.TheVariants.{Number, Single, Signed, Sample}
use Rattle.lines.specs.declared.rows.Row.{Row}
use Rattle.lines.specs.declared.rows.Part.{Part}
use Rattle.lines.specs.declared.rows.Part.TheVariants.{Region, Filter, Band}
use Rattle.lines.specs.Fields.{field_at, has_fields, is_none, signed, hex, capital_single, word_of}
use Rattle.lines.specs.Fields as fields
use Rattle.lines.specs.Desk.{max32}
use Rattle.lines.specs.Desk as desk

-- what a field is read as, as a word: a number of at most max, a single in capitals, a number with its sign, a sample's number or `-`
abbrev pub form_value : Form → List ℕ → Option ℕ
form_value (Number max) f = fields.number max f
form_value Single f = option_map (to_bits binary32) (capital_single f)
form_value Signed f = option_map word_of (signed f)
form_value Sample f = option_map (λ n. unwrap_or n max32) (desk.maybe f)

-- whether it can be read
abbrev pub form_fits : Form → List ℕ → Bool
form_fits (Number max) f = is_some (fields.number max f)
form_fits Single f = is_some (capital_single f)
form_fits Signed f = is_some (signed f)
form_fits Sample f = is_some (desk.maybe f)

-- the word that holds it; 0 where it is `-`
abbrev pub form_word : Form → List ℕ → ℕ
form_word (Number max) f = unwrap_or (fields.number max f) 0
form_word Single f = to_bits binary32 (float_of (unwrap_or (hex f) 0))
form_word Signed f = word_of (unwrap_or (signed f) (pos 0))
form_word Sample f = unwrap_or (unwrap_or (desk.maybe f) (Some 0)) max32

-- the rows of the forms. Each is put at a word of a region
abbrev pub row : Form → Option ℕ → Option ℕ → ℕ → Row
row form lead flag word = record { form = form; lead = lead; flag = flag; word = word }

abbrev pub number : ℕ → ℕ → Row
number max word = row (Number max) None None word

abbrev pub bits : ℕ → Row
bits word = row Single None None word

abbrev pub with_sign : ℕ → Row
with_sign word = row Signed None None word

abbrev pub sample : ℕ → Row
sample word = row Sample None None word

-- `-` in this field exactly where it stands in field `lead`
abbrev pub tied : ℕ → Row → Row
tied lead r = row r.form (Some lead) r.flag r.word

-- field k may be `-`, which the word before its own says
abbrev pub maybe : ℕ → ℕ → Row → Row
maybe k flag r = row r.form (Some k) (Some flag) r.word

-- R: sample, keys, velocities, pitch, offset and end
abbrev pub played_rows : List Row
played_rows =
    sample 0 ∷ number 255 1 ∷ number 255 2 ∷ number 255 3 ∷ number 255 4 ∷ number 255 5 ∷ bits 39 ∷ bits 40 ∷ with_sign 6
    ∷ number max32 7 ∷ maybe 11 8 (number max32 9) ∷ []

-- loop_mode, loop_source, loop_start, loop_end
abbrev pub loop_rows : List Row
loop_rows = number 3 10 ∷ number 3 11 ∷ maybe 14 12 (number max32 13) ∷ tied 14 (number max32 14) ∷ []

-- volume_db, amp_random_db, pan, width, amp_veltrack; delay, attack, hold, decay, sustain, release, start
abbrev pub level_rows : List Row
level_rows =
    bits 52 ∷ bits 53 ∷ bits 54 ∷ bits 55 ∷ bits 56
    ∷ bits 43 ∷ bits 44 ∷ bits 45 ∷ bits 46 ∷ bits 50 ∷ bits 47 ∷ bits 51 ∷ []

-- seq_length, seq_position, rand_lo, rand_hi
abbrev pub chance_rows : List Row
chance_rows = maybe 28 15 (number max32 16) ∷ tied 28 (number max32 17) ∷ maybe 30 30 (bits 31) ∷ tied 30 (bits 32) ∷ []

-- group, off_by, off_mode, off_time, trigger, rt_decay_db_per_s, delay_s, note_polyphony, polyphony, bend_up_cents, bend_down_cents
abbrev pub rule_rows : List Row
rule_rows =
    with_sign 18 ∷ maybe 33 19 (with_sign 20) ∷ number 2 21 ∷ bits 48 ∷ number 4 22 ∷ bits 57 ∷ bits 49
    ∷ maybe 39 23 (number max32 24) ∷ maybe 40 25 (number max32 26) ∷ bits 41 ∷ bits 42 ∷ []

-- xf_in_lo, xf_in_hi, xf_out_lo, xf_out_hi, xf_gain_curve
abbrev pub fade_rows : List Row
fade_rows = maybe 43 33 (bits 34) ∷ tied 43 (bits 35) ∷ tied 43 (bits 36) ∷ tied 43 (bits 37) ∷ tied 43 (number 1 38) ∷ []

abbrev pub region_rows : List Row
region_rows = played_rows ++ loop_rows ++ level_rows ++ chance_rows ++ rule_rows ++ fade_rows

-- F,kind,cutoff,resonance,keytrack,keycenter,veltrack,gain, at the seven words of a filter
abbrev pub filter_rows : List Row
filter_rows = number 12 0 ∷ bits 2 ∷ bits 3 ∷ bits 4 ∷ number 255 1 ∷ bits 5 ∷ bits 6 ∷ []

-- Q,kind,freq,bw,gain,vel2freq,vel2gain, at the six words of a band
abbrev pub band_rows : List Row
band_rows = number 2 0 ∷ bits 1 ∷ bits 2 ∷ bits 3 ∷ bits 4 ∷ bits 5 ∷ []

-- the rows of the words of a region, of a filter and of a band
unfoldable pub rows_of : Part → List Row
rows_of Region = region_rows
rows_of Filter = filter_rows
rows_of Band = band_rows

-- whether the field that decides over another is `-`
abbrev pub is_tied : List ℕ → Option ℕ → Bool
is_tied l None = false
is_tied l (Some lead) = is_none (field_at l lead)

unfoldable pub row_fits : List ℕ → Row → List ℕ → Bool
row_fits l r f = cond (is_tied l r.lead) (is_none f) (form_fits r.form f)

-- whether the fields from k on fit their rows
unfoldable pub fields_fit : List ℕ → ℕ → List Row → Bool
fields_fit l k [] = true
fields_fit l k (r ∷ rs) = row_fits l r (field_at l k) && fields_fit l (k + 1) rs

-- whether a line has a field for each row after its letter, and they fit
unfoldable pub line_fits : List ℕ → List Row → Bool
line_fits l rs = has_fields (length rs + 1) l && fields_fit l 1 rs

-- 1 at the word `flag` where the field is there, 0 where it is `-`
abbrev pub flagged : Option ℕ → List ℕ → List ℕ → List ℕ
flagged None f w = w
flagged (Some flag) f w = set w flag (cond (is_none f) 0 1)

unfoldable pub put_row : Row → List ℕ → List ℕ → List ℕ
put_row r f w = set (flagged r.flag f w) r.word (form_word r.form f)

-- the words after the fields from k on
unfoldable pub put_fields : List ℕ → ℕ → List Row → List ℕ → List ℕ
put_fields l k [] w = w
put_fields l k (r ∷ rs) w = put_fields l (k + 1) rs (put_row r (field_at l k) w)

-- what a line makes of the words of a region, of a filter or of a band
abbrev pub part_words : Part → List ℕ → List ℕ → List ℕ
part_words part l w = put_fields l 1 (rows_of part) w
