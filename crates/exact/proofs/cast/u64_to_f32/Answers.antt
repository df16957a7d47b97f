use Rattle.std.proofs.Common.{◌≡◌, ℕ, pos, sym, refl, ap, ◌∙◌, arith}
use lib.Count.{leading_le}
use lib.Ieee.{binary32, of_bits, of_int}
use Rattle.exact.proofs.Narrowing.{small-no-nan}
use Rattle.exact.proofs.Leading.{shifted, whole-pattern}
use Rattle.exact.proofs.cast.u64_to_f32.Goals as goal

zero_is : of_bits binary32 0 ≡ of_int binary32 (pos 0)
unfolding of_bits of_int
zero_is = refl

pub returns-then-n-eq0 : goal.returns-then-n-eq0
returns-then-n-eq0 c = zero_is ∙ ap (λ (n : ℕ). of_int binary32 (pos n)) (sym c.if-n-eq0.true)

pub overflow_cast-zeros : goal.overflow_cast-zeros
overflow_cast-zeros c = omega (arith, leading_le 64 c.args.n)

pub overflow_shl-n : goal.overflow_shl-n
overflow_shl-n c = (shifted c.args.n (omega arith) (omega arith)).few

pub overflow_sub-result : goal.overflow_sub-result
overflow_sub-result c = omega (arith, leading_le 64 c.args.n)

pub overflow_cast-result : goal.overflow_cast-result
overflow_cast-result c = omega (arith, (whole-pattern c.args.n c.nearest_40-digits.result (omega arith) (omega arith) c.nearest_40-digits.ensures).0)

pub overflow_add-result : goal.overflow_add-result
overflow_add-result c = omega (arith, (whole-pattern c.args.n c.nearest_40-digits.result (omega arith) (omega arith) c.nearest_40-digits.ensures).0)

pub float_from_bits-result : goal.float_from_bits-result
float_from_bits-result c = small-no-nan _ (omega (arith, (whole-pattern c.args.n c.nearest_40-digits.result (omega arith) (omega arith) c.nearest_40-digits.ensures).0))

pub returns : goal.returns
returns c = (whole-pattern c.args.n c.nearest_40-digits.result (omega arith) (omega arith) c.nearest_40-digits.ensures).1
