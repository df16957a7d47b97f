use mathlib.Core.Path.{◌≡◌}
use mathlib.Core.Bool.{false}
use Prim.Native.Nat.{◌≤◌, ◌-◌, ◌+◌}
use lib.ListN.{length}
use Rattle.interp.specs.Position.{Position}
use Rattle.segments.specs.Source.{sound_of}
use Rattle.segments.specs.Segment.{Run, run_for}
use Rattle.segments.proofs.segment.frames.Given as goal

-- the frames of a chunk carry on whatever run has come up to it
abbrev pub invariant-loop-at : goal.invariant-loop-at
invariant-loop-at l = (length l.out_l ≡ l.n) × (length l.out_r ≡ l.n) × Position l.h.pos × ((x : Run) → ◌≡◌ {A = Run} (record { hot = l.initial.h; states = l.initial.states; left = l.initial.out_l; right = l.initial.out_r; done = false }) (run_for l.cold l.fn.slots (sound_of l.lent) l.j x) → ◌≡◌ {A = Run} (record { hot = l.h; states = l.states; left = l.out_l; right = l.out_r; done = false }) (run_for l.cold l.fn.slots (sound_of l.lent) (l.j + l.at) x))

abbrev pub invariant-loop-j : goal.invariant-loop-j
invariant-loop-j l = (l.j ≤ l.n) × (length l.out_l ≡ l.n) × (length l.out_r ≡ l.n) × Position l.h.pos × (◌≡◌ {A = Run} (record { hot = l.h; states = l.states; left = l.out_l; right = l.out_r; done = false }) (run_for l.cold l.fn.slots (sound_of l.lent) l.j (record { hot = l.initial.h; states = l.initial.states; left = l.initial.out_l; right = l.initial.out_r; done = false }))) × (length l.kept ≡ 64)

abbrev pub decreases-loop-j : goal.decreases-loop-j
decreases-loop-j l = l.n - l.j
