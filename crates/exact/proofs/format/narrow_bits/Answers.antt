use Rattle.std.proofs.Common.{ℕ, ◌-◌, ◌*◌, ◌/◌, ◌%◌, ◌^◌, ◌≤◌, sym, subst, arith}
use Rattle.exact.proofs.Narrowing.{narrow-sub, done-normal, done-inf, done-small, done-zero, shifted_one}
use Rattle.exact.proofs.format.narrow_bits.Goals as goal

pub overflow_sub-result : goal.overflow_sub-result
overflow_sub-result c = omega (arith, narrow-sub c.args.b (omega arith))

pub nearest_quotient-requires : goal.nearest_quotient-requires
nearest_quotient-requires c = let both = let e = c.args.b / 4503599627370496 in
    let s = shifted_one e (omega arith) (omega arith) in
    subst (λ (x : ℕ). (2 ≤ x) × (x ≤ 4611686018427387904)) (sym s.0) (s.1, s.2) in record { least = both.0; most = both.1 }

pub overflow_cast-result-then-b-ge-LEAST : goal.overflow_cast-result-then-b-ge-LEAST
overflow_cast-result-then-b-ge-LEAST c = let b = c.args.b in
    let s = shifted_one (b / 4503599627370496) (omega arith) (omega arith) in
    omega (arith, (done-small b c.nearest_quotient.result (1 * 2 ^ (926 - b / 4503599627370496) % 18446744073709551616) (omega arith) (omega arith) s.0 (omega (arith, s.0, s.3)) c.nearest_quotient.ensures).1)

pub returns-then-q : goal.returns-then-q
returns-then-q c = done-normal c.args.b c.nearest_29-q.result (omega arith) c.nearest_29-q.ensures (omega arith)

pub returns-else-q : goal.returns-else-q
returns-else-q c = done-inf c.args.b c.nearest_29-q.result (omega arith) (omega arith) c.nearest_29-q.ensures (omega arith)

pub returns-then-b-ge-LEAST : goal.returns-then-b-ge-LEAST
returns-then-b-ge-LEAST c = let b = c.args.b in
    let s = shifted_one (b / 4503599627370496) (omega arith) (omega arith) in
    done-small b c.nearest_quotient.result (1 * 2 ^ (926 - b / 4503599627370496) % 18446744073709551616) (omega arith) (omega arith) s.0 (omega (arith, s.0, s.3)) c.nearest_quotient.ensures

pub returns-else-b-ge-LEAST : goal.returns-else-b-ge-LEAST
returns-else-b-ge-LEAST c = done-zero c.args.b (omega arith)
