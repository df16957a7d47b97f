-- 01's lines of the desk lister. `field_at l k` is field k of the line l, and field 0 its letter. Definitions only.
use Rattle.std.specs.Prelude.{ℕ, cond, ◌&&◌, List, ltb, leb, eqb, None, Option, Some, option_map, ℤ}
use Rattle.program.specs.declared.region.Seq.{Seq}
use Rattle.program.specs.declared.region.Window.{Window}
use Rattle.lines.specs.declared.desk.RegionLine.{RegionLine}
use Rattle.lines.specs.declared.desk.BlockLine.{BlockLine}
use Rattle.lines.specs.declared.desk.DeskLine.{DeskLine}
use Rattle.lines.specs.declared.desk.DeskLine.TheVariants.{Sample, Region, Voice, Block, Reset, Close}
use Rattle.lines.specs.Fields.{◌>>=◌, field_at, has_fields, is_byte, is_none, number, six_digits, signed, single}

-- numbers of 32 and of 64 bits
abbrev pub max32 : ℕ
max32 = 0xffff_ffff

abbrev pub max64 : ℕ
max64 = 0xffff_ffff_ffff_ffff

-- what is read of a field, which may be `-` for none
abbrev pub or_none : {T : Type 0} → List ℕ → Option T → Option (Option T)
or_none f r = cond (is_none f) (Some None) (option_map Some r)

-- a number or `-`
abbrev pub maybe : List ℕ → Option (Option ℕ)
maybe f = or_none f (number max32 f)

abbrev pub off_by : List ℕ → Option (Option ℤ)
off_by f = or_none f (signed f)

-- `-` in both fields or in neither
unfoldable pub seq : List ℕ → List ℕ → Option (Option Seq)
seq f g = cond (is_none f) (cond (is_none g) (Some None) None) (do
  length ← number max32 f
  position ← number max32 g
  Some (Some (record { length = length; position = position })))

-- S,rate,frames: 1 to 8,000 frames
unfoldable pub sample_line : List ℕ → Option DeskLine
sample_line l = cond (has_fields 3 l) (do
  rate ← six_digits (field_at l 1)
  frames ← six_digits (field_at l 2)
  cond (ltb 0 frames && leb frames 8000) (Some (Sample rate frames)) None) None

-- R,sample,lokey,hikey,lovel,hivel,loop_mode,trigger,group,off_by,note_polyphony,polyphony,seq_length,seq_position
unfoldable pub window_at : List ℕ → Option Window
window_at l = do
  lokey ← number 255 (field_at l 2)
  hikey ← number 255 (field_at l 3)
  lovel ← number 255 (field_at l 4)
  hivel ← number 255 (field_at l 5)
  Some (record { lokey = lokey; hikey = hikey; lovel = lovel; hivel = hivel })

unfoldable pub region_at : List ℕ → Option RegionLine
region_at l = do
  sample ← maybe (field_at l 1)
  window ← window_at l
  loop_mode ← number 3 (field_at l 6)
  trigger ← number 4 (field_at l 7)
  group ← signed (field_at l 8)
  off_group ← off_by (field_at l 9)
  note_polyphony ← maybe (field_at l 10)
  polyphony ← maybe (field_at l 11)
  turn ← seq (field_at l 12) (field_at l 13)
  Some (record {
    sample = sample;
    window = window;
    loop_mode = loop_mode;
    trigger = trigger;
    group = group;
    off_by = off_group;
    note_polyphony = note_polyphony;
    polyphony = polyphony;
    seq = turn;
  })

unfoldable pub region_line : List ℕ → Option DeskLine
region_line l = cond (has_fields 14 l) (option_map Region (region_at l)) None

-- V,rate
unfoldable pub voice_line : List ℕ → Option DeskLine
voice_line l = cond (has_fields 2 l) (option_map Voice (six_digits (field_at l 1))) None

-- B,voice,offset,frames,gate,freq,vel
unfoldable pub block_at : List ℕ → Option BlockLine
block_at l = do
  voice ← number max64 (field_at l 1)
  offset ← number max64 (field_at l 2)
  frames ← six_digits (field_at l 3)
  gate ← number 1 (field_at l 4)
  freq ← single (field_at l 5)
  vel ← single (field_at l 6)
  Some (record { play = record { voice = voice; offset = offset; frames = frames }; gate = eqb gate 1; freq = freq; vel = vel })

unfoldable pub block_line : List ℕ → Option DeskLine
block_line l = cond (has_fields 7 l) (option_map Block (block_at l)) None

-- the voice that Z,voice or D,voice names
unfoldable pub voice_at : List ℕ → Option ℕ
voice_at l = cond (has_fields 2 l) (number max64 (field_at l 1)) None

-- what a line means, by its letter; anything else cannot be read
unfoldable pub desk_line : List ℕ → Option DeskLine
desk_line l =
    cond (is_byte 83 (field_at l 0)) (sample_line l)
    (cond (is_byte 82 (field_at l 0)) (region_line l)
    (cond (is_byte 86 (field_at l 0)) (voice_line l)
    (cond (is_byte 66 (field_at l 0)) (block_line l)
    (cond (is_byte 90 (field_at l 0)) (option_map Reset (voice_at l))
    (cond (is_byte 68 (field_at l 0)) (option_map Close (voice_at l)) None)))))
