-- A held step is within 0 to 4,096, and a player stays sound under another pitch. Assumes nothing.
use mathlib.Core.Path.{◌≡◌, refl}
use mathlib.Core.Bool.{Bool, true, false, not, cond}
use Prim.Native.Nat.{◌+◌, ◌*◌, ◌^◌, ◌≤◌, ◌<◌}
use native.Mathlib.Omega.{arith}
use lib.Dec.{T, ltb, lt→ltb, nltb→le}
use lib.IntN.{pos}
use lib.Ieee.Fits.{down_pos}
use lib.Ieee.Order.{le_of_values}
use lib.Ieee.{Float, nan, inf, fin, up, down, le, lt, eq, ne, of_bits}
use Rattle.interp.specs.Position.{first}
use Rattle.interp.specs.Span.{span_for}
use Rattle.interp.proofs.HalfTaps.{half-small}
use Rattle.player.specs.declared.Cold.{Cold}
use Rattle.player.specs.Bounds.{Step, ColdOk, most}
use Rattle.player.specs.Pitch.{held_step, step_of, with_step, pitched}
use Rattle.player.proofs.Within.{zero_of, left}

-- not above 4,096
kept : (s : Float) → T (le first s) → T (not (lt most s)) → T (le s most)
unfolding of_bits le lt eq
kept nan a b = absurd a
kept (inf true) a b = absurd a
kept (inf false) a b = absurd b
kept (fin true m e) a b =
    let z : m * up e ≡ 0 = zero_of m e a in
    let d : 0 < down e = down_pos e in
    left (ltb 0 (m * up e * 1 + 1 * 2 ^ 12 * down e)) _ (lt→ltb 0 (m * up e * 1 + 1 * 2 ^ 12 * down e) (omega arith))
kept (fin false m e) a b =
    let h : m * up e * 1 ≤ 1 * 2 ^ 12 * down e = nltb→le (1 * 2 ^ 12 * down e) (m * up e * 1) b in
    le_of_values (fin false m e) (fin false 1 (pos 12)) (m * up e) (down e) 4096 1 (down_pos e) (omega arith) (refl, refl) (refl, refl) (omega arith)

pub at_first : Step first
unfolding of_bits le lt eq
at_first = record { low = tt; high = tt }

at_most : Step most
unfolding of_bits le lt eq
at_most = record { low = tt; high = tt }

pub held : (s : Float) → Step (held_step s)
unfolding held_step of_bits
held s = go (le first s) (lt most s) (λ (t : T (le first s)). t) (λ (t : T (not (lt most s))). t)
  where
    go : (x y : Bool) → (T x → T (le first s)) → (T (not y) → T (not (lt most s))) → Step (cond x (cond y most s) first)
    go false y f g = at_first
    go true true f g = at_most
    go true false f g = record { low = f tt; high = kept s (f tt) (g tt) }

pub pitched-ok : (c : Cold) (note bend : Float) → ColdOk c → ColdOk (pitched c note bend)
unfolding pitched step_of
pitched-ok c note bend ok = go (ne (step_of c note bend) c.step)
  where
    go : (x : Bool) → ColdOk (cond x (with_step (step_of c note bend) (span_for (step_of c note bend)) c) c)
    go true = record { step = held _; half = half-small _; last = ok.last; lp = ok.lp; filters = ok.filters }
    go false = ok
