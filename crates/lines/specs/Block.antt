-- The lines of the block lister. `field_at l k` is field k of the line l, and field 0 its letter. Definitions only.
use Rattle.std.specs.Prelude.{ℕ, cond, List, [], ◌∷◌, ltb, None, Option, Some, option_map, slice_get}
use Rattle.lines.specs.declared.block.Content.{Content}
use Rattle.lines.specs.declared.block.Content.TheVariants.{Zeros, Noise, Ones}
use Rattle.lines.specs.declared.block.SampleLine.{SampleLine}
use Rattle.lines.specs.declared.block.Input.{Input}
use Rattle.lines.specs.declared.block.Input.TheVariants.{Freq, Gate, Vel, Amp, Seed, Bend, Quality}
use Rattle.lines.specs.declared.block.Set.{Set}
use Rattle.lines.specs.declared.block.Line.{Line}
use Rattle.lines.specs.declared.block.Line.TheVariants.{Entry, Sample, Part, Point, Voice, Block, Ask, Reset, Close}
use Rattle.lines.specs.declared.block.Line.TheVariants as line
use Rattle.lines.specs.declared.rows.Part as part
use Rattle.lines.specs.declared.rows.Part.TheVariants.{Region, Filter, Band}
use Rattle.lines.specs.Fields.{◌>>=◌, field_at, has_fields, is_byte, is_none, number, capital_single}
use Rattle.lines.specs.Desk.{max32, max64, voice_at}
use Rattle.lines.specs.Rows.{rows_of, line_fits}

-- W,index,value: an entry of the sinc table
unfoldable pub entry_line : List ℕ → Option Line
entry_line l = cond (has_fields 3 l) (do
  index ← number 8193 (field_at l 1)
  value ← capital_single (field_at l 2)
  Some (Entry index value)) None

-- S,rate,channels,frames,kind,seed: 1 or 2 channels; kind 0 zeros, 1 noise, 2 ones
abbrev pub content_of : ℕ → Option Content
content_of n = slice_get (Zeros ∷ Noise ∷ Ones ∷ []) n

unfoldable pub sample_at : List ℕ → Option SampleLine
sample_at l = do
  rate ← capital_single (field_at l 1)
  channels ← number 2 (field_at l 2)
  frames ← number max32 (field_at l 3)
  kind ← number 2 (field_at l 4)
  content ← content_of kind
  seed ← number max64 (field_at l 5)
  cond (ltb 0 channels) (Some (record { rate = rate; channels = channels; frames = frames; content = content; seed = seed })) None

unfoldable pub sample_line : List ℕ → Option Line
sample_line l = cond (has_fields 6 l) (option_map Sample (sample_at l)) None

-- R: a region; F: a filter; Q: an equaliser band
unfoldable pub part_line : part.Part → List ℕ → Option Line
part_line p l = cond (line_fits l (rows_of p)) (Some (Part p)) None

-- C,velocity,gain: a velocity point
unfoldable pub point_line : List ℕ → Option Line
point_line l = cond (has_fields 3 l) (do
  velocity ← number 255 (field_at l 1)
  gain ← capital_single (field_at l 2)
  Some (Point velocity gain)) None

-- V,rate
unfoldable pub voice_line : List ℕ → Option Line
voice_line l = cond (has_fields 2 l) (option_map Voice (capital_single (field_at l 1))) None

-- I,input,frame,value, or `-` for both
abbrev pub input_of : ℕ → Option Input
input_of n = slice_get (Freq ∷ Gate ∷ Vel ∷ Amp ∷ Seed ∷ Bend ∷ Quality ∷ []) n

unfoldable pub set_at : List ℕ → List ℕ → Option (Option Set)
set_at f g = cond (is_none f) (cond (is_none g) (Some None) None) (do
  frame ← number 127 f
  value ← capital_single g
  Some (Some (record { frame = frame; value = value })))

unfoldable pub input_line : List ℕ → Option Line
input_line l = cond (has_fields 4 l) (do
  n ← number 6 (field_at l 1)
  input ← input_of n
  set ← set_at (field_at l 2) (field_at l 3)
  Some (line.Input input set)) None

-- B,voice,offset,frames
unfoldable pub play_line : List ℕ → Option Line
play_line l = cond (has_fields 4 l) (do
  voice ← number max64 (field_at l 1)
  offset ← number max64 (field_at l 2)
  frames ← number max32 (field_at l 3)
  Some (Block (record { voice = voice; offset = offset; frames = frames }))) None

-- what a line means, by its letter: V, I, B, A, Z, D, or W, S, R, C, F, Q of a program; anything else cannot be read
unfoldable pub block_line : List ℕ → Option Line
block_line l =
    cond (is_byte 86 (field_at l 0)) (voice_line l)
    (cond (is_byte 73 (field_at l 0)) (input_line l)
    (cond (is_byte 66 (field_at l 0)) (play_line l)
    (cond (is_byte 65 (field_at l 0)) (option_map Ask (voice_at l))
    (cond (is_byte 90 (field_at l 0)) (option_map Reset (voice_at l))
    (cond (is_byte 68 (field_at l 0)) (option_map Close (voice_at l))
    (cond (is_byte 87 (field_at l 0)) (entry_line l)
    (cond (is_byte 83 (field_at l 0)) (sample_line l)
    (cond (is_byte 82 (field_at l 0)) (part_line Region l)
    (cond (is_byte 67 (field_at l 0)) (point_line l)
    (cond (is_byte 70 (field_at l 0)) (part_line Filter l)
    (cond (is_byte 81 (field_at l 0)) (part_line Band l) None)))))))))))
