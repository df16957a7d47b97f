-- The words of a region and of a sample, as binding is lent them: docs/PROGRAM.md's tables. Definitions only.
use Rattle.std.specs.Prelude.{ℕ, ◌+◌, List, pos, cond, slice_set, to_bits, Option, is_some, option_map, unwrap_or}
use Rattle.std.specs.Float.{binary32}
use Rattle.std.specs.Float.Ieee.{of_int}
use Rattle.lines.specs.declared.desk.RegionLine.{RegionLine}
use Rattle.lines.specs.Fields.{word_of}
use Rattle.lines.specs.Desk.{max32}

-- `Region::default` over words that are 0
unfoldable pub default_region : List ℕ → List ℕ
default_region w = slice_set (slice_set (slice_set (slice_set (slice_set (slice_set (slice_set (slice_set (slice_set (slice_set (slice_set w 2 127) 4 127) 5 60) 39 0x42c8_0000) 41 0x4348_0000) 42 0xc348_0000) 47 0x3a83_126f) 48 0x3bc4_9ba6) 50 0x42c8_0000) 55 0x42c8_0000) 56 0x42c8_0000

-- sample, keys and velocities
unfoldable pub window_words : RegionLine → List ℕ → List ℕ
window_words r w =
    slice_set (slice_set (slice_set (slice_set (slice_set w 0 (unwrap_or r.sample max32)) 1 r.window.lokey) 2 r.window.hikey) 3 r.window.lovel) 4 r.window.hivel

unfoldable pub mode_words : RegionLine → List ℕ → List ℕ
mode_words r w = slice_set (slice_set w 10 r.loop_mode) 22 r.trigger

-- a word that says whether a value is there, and the value
abbrev pub option_words : ℕ → Option ℕ → List ℕ → List ℕ
option_words at o w = slice_set (slice_set w at (cond (is_some o) 1 0)) (at + 1) (unwrap_or o 0)

-- the same of a sequence
unfoldable pub turn_words : RegionLine → List ℕ → List ℕ
turn_words r w = slice_set (option_words 15 (option_map (λ q. q.length) r.seq) w) 17 (unwrap_or (option_map (λ q. q.position) r.seq) 0)

-- the group, and the one that turns it off
unfoldable pub choke_words : RegionLine → List ℕ → List ℕ
choke_words r w = option_words 19 (option_map word_of r.off_by) (slice_set w 18 (word_of r.group))

-- the two polyphonies
unfoldable pub polyphony_words : RegionLine → List ℕ → List ℕ
polyphony_words r w = option_words 25 r.polyphony (option_words 23 r.note_polyphony w)

unfoldable pub rule_words : RegionLine → List ℕ → List ℕ
rule_words r w = polyphony_words r (choke_words r (turn_words r w))

-- the words of an R line's region
unfoldable pub region_words : RegionLine → List ℕ → List ℕ
region_words r w = rule_words r (mode_words r (window_words r (default_region w)))

-- the words of an S line's sample: mono, its frames the first of those lent
unfoldable pub sample_words : ℕ → ℕ → List ℕ → List ℕ
sample_words rate frames w = slice_set (slice_set (slice_set (slice_set w 0 (to_bits binary32 (of_int binary32 (pos rate)))) 1 1) 2 frames) 3 0
