use mathlib.Core.Path.{sym, ◌∙◌}
use Prim.Native.Nat.{◌-◌}
use native.Mathlib.Omega.{arith}
use lib.ListN.{length}
use Rattle.segments.proofs.Resting.{no_run, ran-silent}
use Rattle.segments.proofs.plain.play_silent.Goals as goal

pub returns-then-not-is_silent : goal.returns-then-not-is_silent
returns-then-not-is_silent c = λ a b. record { from = omega arith; to = c.requires.1; position = c.requires.0; runs = λ slots states table. no_run _ _ _ _ _ }

pub returns : goal.returns
returns c = let e = c.args in
    let pre = c.requires in λ a b. record {
      from = pre.1;
      to = omega arith;
      position = pre.0;
      runs = λ slots states table.
          rw (c.add_same.ensures, c.add_same-2.ensures, c.share_of.ensures, c.share_of-2.ensures)
          (ran-silent e.c slots (record { a = a; b = b; table = table }) e.h e.j states e.out_l.now e.out_r.now (sym c.is_silent.ensures ∙ c.if-not-is_silent.false) (length e.out_l.now - e.j));
    }
