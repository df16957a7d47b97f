-- Where what is put stands in the text that is collected, a buffer of 65,536 bytes. Definitions only.
use Rattle.std.specs.Prelude.{ℕ, ◌+◌, cond, leb}

-- n bytes more: behind those that are there, or at the front, where there is no room and what is there is written first
unfoldable pub place_for : ℕ → ℕ → ℕ
place_for n len = cond (leb (len + n) 65536) len 0
