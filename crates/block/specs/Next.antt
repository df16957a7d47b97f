-- The first frame from `from` on with an event. Definitions only.
use Rattle.std.specs.List.{list_any, find, range_with_len}
use Rattle.std.specs.Prelude.{ℕ, ◌+◌, ◌-◌, Bool, List, Float, Option}
use Rattle.session.specs.Offs.{first_at}
use Rattle.session.specs.declared.Offs.{Offs}
use Rattle.block.specs.declared.BlockTime.{BlockTime}
use Rattle.block.specs.Inputs.{gate_at}
use Rattle.block.specs.Block.{off_list, falls_on, turns, has_event}

-- the first of the frames from `from` to n that p holds of, or n
abbrev pub first_from : (ℕ → Bool) → ℕ → ℕ → ℕ
first_from p from n = from + first_at p (range_with_len from (n - from))

-- the first frame on which the gate is not as before
unfoldable pub next_gate : Bool → Option (List Float) → ℕ → ℕ → Option ℕ
next_gate prev gate from n = find (λ i. turns prev (gate_at gate i)) (range_with_len from (n - from))

-- the first frame that an off time falls on
unfoldable pub next_off : BlockTime → Offs → ℕ → Option ℕ
next_off t q from = find (λ i. list_any (falls_on t i) (off_list q)) (range_with_len from (t.frames - from))

-- the first frame with an event; the block's length where there is none
unfoldable pub next_event : BlockTime → Offs → Bool → Option (List Float) → ℕ → ℕ
next_event t q prev gate from = first_from (λ i. has_event t q prev (gate_at gate i) i) from t.frames
