use mathlib.Core.Path.{refl, sym, ◌∙◌}
use mathlib.Core.Bool.{true, false}
use Rattle.segments.proofs.Fours.{Begun, Doubles, all-parts, in-frames, both_read, mono-read, keeps-four}
use Rattle.segments.specs.Source.{sound_of}
use Rattle.segments.proofs.Kept.{even-of}
use Rattle.segments.proofs.Placed.{all-singles, placed, rows-of}
use borrow.Author.Rules.{rules}
use Rattle.segments.proofs.ahead.four.Goals as goal

pub sinc_four-v-requires : goal.sinc_four-v-requires
sinc_four-v-requires c = let p = c.requires in
    let b : Begun c.args.cold.span.half c.args.x (record { n0 = c.start_at.result; n1 = c.start_at-2.result; n2 = c.start_at-3.result; n3 = c.start_at-4.result }) (record { x0 = c.fraction.result; x1 = c.fraction-2.result; x2 = c.fraction-3.result; x3 = c.fraction-4.result }) = record {
      n0 = c.start_at.ensures;
      n1 = c.start_at-2.ensures;
      n2 = c.start_at-3.ensures;
      n3 = c.start_at-4.ensures;
      f0 = c.fraction.ensures;
      f1 = c.fraction-2.ensures;
      f2 = c.fraction-3.ensures;
      f3 = c.fraction-4.ensures;
    } in
    let q = all-parts _ _ _ _ _ b p.1 p.2.inside.least p.0 in
    let z = rw c.in-Some.is at p.2.same in
    (p.2.inside, q, elim [ true ↦ in-frames _ _ _ _ _ b p.1 _ (even-of _ _ z) | false ↦ in-frames _ _ _ _ _ b p.1 _ refl ], λ t. rows-of _ _ _ _ _ q (all-singles _ _ _ _ b) (sym c.as_last-placed.ensures ∙ t) p.5)

pub keep_four-requires : goal.keep_four-requires
keep_four-requires c = c.requires.3

pub sinc_four-l-requires : goal.sinc_four-l-requires
sinc_four-l-requires c = let p = c.requires in
    let b : Begun c.args.cold.span.half c.args.x (record { n0 = c.start_at.result; n1 = c.start_at-2.result; n2 = c.start_at-3.result; n3 = c.start_at-4.result }) (record { x0 = c.fraction.result; x1 = c.fraction-2.result; x2 = c.fraction-3.result; x3 = c.fraction-4.result }) = record {
      n0 = c.start_at.ensures;
      n1 = c.start_at-2.ensures;
      n2 = c.start_at-3.ensures;
      n3 = c.start_at-4.ensures;
      f0 = c.fraction.ensures;
      f1 = c.fraction-2.ensures;
      f2 = c.fraction-3.ensures;
      f3 = c.fraction-4.ensures;
    } in
    let q = all-parts _ _ _ _ _ b p.1 p.2.inside.least p.0 in
    (p.2.inside, q, λ right. in-frames _ _ _ _ _ b p.1 _ refl, λ t. rows-of _ _ _ _ _ q (all-singles _ _ _ _ b) (sym c.as_last-placed.ensures ∙ t) p.5)

pub keep_four-requires-in-None : goal.keep_four-requires-in-None
keep_four-requires-in-None c = c.requires.3

pub returns-in-Some : goal.returns-in-Some
returns-in-Some c = let p = c.requires in
    let v = c.sinc_four-v.ensures in
    let b : Begun c.args.cold.span.half c.args.x (record { n0 = c.start_at.result; n1 = c.start_at-2.result; n2 = c.start_at-3.result; n3 = c.start_at-4.result }) (record { x0 = c.fraction.result; x1 = c.fraction-2.result; x2 = c.fraction-3.result; x3 = c.fraction-4.result }) = record {
      n0 = c.start_at.ensures;
      n1 = c.start_at-2.ensures;
      n2 = c.start_at-3.ensures;
      n3 = c.start_at-4.ensures;
      f0 = c.fraction.ensures;
      f1 = c.fraction-2.ensures;
      f2 = c.fraction-3.ensures;
      f3 = c.fraction-4.ensures;
    } in
    let d : Doubles c.args.x = record { p0 = search rules; p1 = search rules; p2 = search rules; p3 = search rules } in
    let w = both_read c.args.cold (sound_of c.args.lent) p.2.kind _ _ _ _ _ p.2.inside.least d p.0 b p.1 (v.0 false) c.in-Some.b.now _ (rw c.in-Some.is) (v.0 true) in
    (keeps-four _ _ _ _ _ _ _ _ p.3 w c.keep_four.ensures p.4, placed _ _ _ _ (all-parts _ _ _ _ _ b p.1 p.2.inside.least p.0) (all-singles _ _ _ _ b) v.1)

pub returns-in-None : goal.returns-in-None
returns-in-None c = let p = c.requires in
    let v = c.sinc_four-l.ensures in
    let b : Begun c.args.cold.span.half c.args.x (record { n0 = c.start_at.result; n1 = c.start_at-2.result; n2 = c.start_at-3.result; n3 = c.start_at-4.result }) (record { x0 = c.fraction.result; x1 = c.fraction-2.result; x2 = c.fraction-3.result; x3 = c.fraction-4.result }) = record {
      n0 = c.start_at.ensures;
      n1 = c.start_at-2.ensures;
      n2 = c.start_at-3.ensures;
      n3 = c.start_at-4.ensures;
      f0 = c.fraction.ensures;
      f1 = c.fraction-2.ensures;
      f2 = c.fraction-3.ensures;
      f3 = c.fraction-4.ensures;
    } in
    let d : Doubles c.args.x = record { p0 = search rules; p1 = search rules; p2 = search rules; p3 = search rules } in
    let w = mono-read c.args.cold (sound_of c.args.lent) p.2.kind _ _ _ _ _ p.2.inside.least d p.0 b p.1 (v.0 false) (rw c.in-None.is) in
    (keeps-four _ _ _ _ _ _ _ _ p.3 w c.keep_four-in-None.ensures p.4, placed _ _ _ _ (all-parts _ _ _ _ _ b p.1 p.2.inside.least p.0) (all-singles _ _ _ _ b) v.1)
