-- A player that starts is sound. Assumes nothing.
use Rattle.std.proofs.Common.{Float, None, Option, Some, ℕ}
use mathlib.Core.Path.{refl}
use mathlib.Core.Bool.{Bool, true, false, ◌&&◌, cond}
use Prim.Native.Nat.{ℕ, ◌≤◌, ◌<◌}
use native.Mathlib.Omega.{arith}
use lib.Dec.{T, ltb, leb→le, ltb→lt}
use lib.Ieee.Fits.{and_r}
use lib.Ieee.{Float, of_int}
use Rattle.filter_design.specs.Slots.{run}
use Rattle.filter_design.proofs.Built.{built-stages, built-count}
use Rattle.interp.specs.Position.{Position, double}
use Rattle.interp.proofs.HalfTaps.{half-small}
use Rattle.program.specs.Valid.{loop_in_order}
use Rattle.program.specs.declared.region.LoopMode.{LoopMode}
use Rattle.program.specs.declared.region.LoopPoints.{LoopPoints}
use Rattle.program.specs.declared.region.Region.{Region}
use Rattle.program.specs.declared.sample.Sample.{Sample}
use Rattle.player.specs.Bounds.{LoopOk, PlayerOk}
use Rattle.player.specs.Start.{sample_for, frames_of, last_of, loop_at, has_loop, loop_of, hot_at, cold_at, started_player}
use Rattle.player.specs.declared.start.Event.{Event}
use Rattle.player.specs.declared.start.Note.{Note}
use Rattle.player.proofs.Pitches.{at_first, pitched-ok}
use Rattle.player.proofs.Within.{round-within}

last-below : (end : Option ℕ) (frames : ℕ) → frames ≤ 4294967295 → last_of end frames < 4294967295
unfolding last_of
last-below None frames h = omega arith
last-below (Some e) frames h = omega arith

few-frames : (i : Option ℕ) (s : Sample) → s.frames ≤ 4294967295 → frames_of (sample_for i s) ≤ 4294967295
few-frames None s h = omega arith
few-frames (Some i) s h = h

loop-sound : (mode : LoopMode) (points : Option LoopPoints) (frames : ℕ) (rate : Float) (last : ℕ) → T (loop_in_order points) → frames ≤ 4294967295 → LoopOk (loop_of mode points frames rate last)
unfolding loop_of loop_at
loop-sound mode None frames rate last h f = tt
loop-sound mode (Some l) frames rate last h f = go (has_loop mode && ltb l.end frames) (λ (t : T (has_loop mode && ltb l.end frames)). ltb→lt l.end frames (and_r (has_loop mode) (ltb l.end frames) t))
  where
    go : (x : Bool) → (T x → l.end < frames) → LoopOk (cond x (Some (loop_at l.start l.end last rate)) None)
    go true g =
        let o : l.start ≤ l.end = leb→le l.start l.end h in
        let k : l.end < frames = g tt in
        (omega arith, omega arith, refl)
    go false g = tt

start-position : (n : ℕ) → n < 4294967296 → Position (double n)
unfolding of_int
start-position n h = round-within n 1 (omega arith) (omega arith)

pub started-sound : (x : Region) (s : Sample) (c : Option Float) (n : Note) (e : Event) (rate : Float)
    → T (loop_in_order x.play.loop_points)
    → s.frames ≤ 4294967295
    → x.play.offset_frames < 4294967296
    → PlayerOk (started_player x s c n e rate)
unfolding started_player hot_at cold_at
started-sound x s c n e rate h f o =
    let k = few-frames x.sample s f in
    record {
      cold = pitched-ok _ _ _ (record {
        step = at_first;
        half = half-small _;
        last = last-below x.play.end_frames _ k;
        lp = loop-sound x.play.loop_mode x.play.loop_points _ _ _ h k;
        filters = built-count (run x n.note n.vel rate);
      });
      stages = built-stages x n.note n.vel rate;
      position = start-position x.play.offset_frames o;
    }
