use Rattle.std.proofs.Common.{option_map}
use mathlib.Core.Path.{◌≡◌, sym, ap, subst, ◌∙◌}
use mathlib.Core.Bool.{false}
use mathlib.Core.List.{List}
use Prim.Native.Nat.{ℕ, ◌≤◌, ◌+◌, ◌-◌, ◌^◌}
use native.Mathlib.Omega.{arith}
use lib.Dec.{le→leb}
use lib.Ieee.{Float, in_float}
use Rattle.player.specs.Bounds.{LoopOk}
use Rattle.segments.specs.Source.{Sound}
use Rattle.segments.specs.Plain.{plain_end, run_from, Reaches}
use Rattle.segments.proofs.Positions.{current-ok}
use Rattle.segments.proofs.Resting.{no_run, end-small, double-position, ran, reaches}
use Rattle.segments.proofs.plain.play_stored.Goals as goal

-- the frames between j and j + k
back : (j k : ℕ) → j + k - j ≡ k
back j k = omega arith

pub returns-then-not-is_plain : goal.returns-then-not-is_plain
returns-then-not-is_plain c = record { from = omega arith; to = c.requires.2; position = c.requires.1; runs = λ slots states table. no_run _ _ _ _ _ }

pub returns-in_default : goal.returns-in_default
returns-in_default c = record { from = omega arith; to = c.requires.2; position = c.requires.1; runs = λ slots states table. no_run _ _ _ _ _ }

pub returns-then-k-eq0 : goal.returns-then-k-eq0
returns-then-k-eq0 c = record { from = omega arith; to = c.requires.2; position = c.requires.1; runs = λ slots states table. no_run _ _ _ _ _ }

pub add_plain-requires : goal.add_plain-requires
add_plain-requires c = let q = c.plain_count-k.ensures.1 (omega (arith, c.if-k-eq0.false)) in (omega (arith, c.plain_count-k.ensures.0, c.requires.2), reaches _ _ _ _ q.1 c.channel_len.ensures)

pub add_plain-requires-2 : goal.add_plain-requires-2
add_plain-requires-2 c = let q = c.plain_count-k.ensures.1 (omega (arith, c.if-k-eq0.false)) in (omega (arith, c.plain_count-k.ensures.0, c.requires.2, c.requires.3), reaches _ _ _ _ q.1 c.channel_len.ensures)

pub overflow_add-result : goal.overflow_add-result
overflow_add-result c = let ok : LoopOk c.looping.result = subst LoopOk (sym c.looping.ensures) (current-ok _ _ _ c.requires.0.lp) in let e = end-small c.looping.result c.args.c.last ok c.requires.0.last in let q = c.plain_count-k.ensures.1 (omega (arith, c.if-k-eq0.false)) in omega (arith, q.0, c.plain_end-end.ensures.0, e)

pub int_to_float-result : goal.int_to_float-result
unfolding in_float
int_to_float-result c = let ok : LoopOk c.looping.result = subst LoopOk (sym c.looping.ensures) (current-ok _ _ _ c.requires.0.lp) in let e = end-small c.looping.result c.args.c.last ok c.requires.0.last in let q = c.plain_count-k.ensures.1 (omega (arith, c.if-k-eq0.false)) in le→leb (c.in-Some.p + c.plain_count-k.result) (2 ^ 53) (omega (arith, q.0, c.plain_end-end.ensures.0, e))

pub overflow_add-result-2 : goal.overflow_add-result-2
overflow_add-result-2 c = omega (arith, c.plain_count-k.ensures.0, c.requires.2, c.well_formed)

pub returns : goal.returns
returns c = let a = c.args in
    let pre = c.requires in
    let lp = c.looping.result in
    let m = c.in-Some.p in
    let k = c.plain_count-k.result in
    let w = c.in-Some.ensures in
    let ok : LoopOk lp = subst LoopOk (sym c.looping.ensures) (current-ok _ _ _ pre.0.lp) in
    let q = c.plain_count-k.ensures.1 (omega (arith, c.if-k-eq0.false)) in
    let e = end-small lp a.c.last ok pre.0.last in
    let z : m + k ≤ plain_end lp a.c.last = subst (λ (n : ℕ). m + k ≤ n) c.plain_end-end.ensures.0 q.0 in
    let s : List Float → Sound = λ table. record { a = a.a.now; b = option_map (λ x. x.now) a.b; table = table } in
    let r : Reaches a.a.now (option_map (λ x. x.now) a.b) (m + k) = reaches _ _ _ _ q.1 c.channel_len.ensures in
    record {
      from = omega arith;
      to = omega (arith, c.plain_count-k.ensures.0, pre.2);
      position = double-position (m + k) (omega arith);
      runs = λ slots states table.
          rw (c.add_plain.ensures, c.add_plain-2.ensures)
          (ran a.c slots (s table) a.h lp m k (sym c.is_plain.ensures ∙ c.if-not-is_plain.false) w.2 c.looping.ensures ok
          c.plain_end-end.ensures.1 pre.0.last z r.0 r.1 a.j states a.out_l.now a.out_r.now
          ∙ ap (λ (n : ℕ). run_from a.c slots (s table) a.j n (record { hot = a.h; states = states; left = a.out_l.now; right = a.out_r.now; done = false })) (sym (back a.j k)));
    }
