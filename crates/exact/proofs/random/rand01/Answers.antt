use Rattle.std.proofs.Common.{◌≡◌, ℕ, ◌*◌, ◌%◌, ap, ◌∙◌, mod-eq_of_lt, arith}
use lib.Bits.{bit_xor}
use Rattle.exact.specs.Random.{split_mix, uniform_of, drawn}
use Rattle.exact.proofs.random.rand01.Goals as goal

pub returns : goal.returns
unfolding drawn
returns c = let a = c.args in
    let shifted : a.seed * 4294967296 % 18446744073709551616 ≡ a.seed * 4294967296 = mod-eq_of_lt (omega arith) in
    c.uniform.ensures
    ∙ ap uniform_of (c.splitmix64.ensures
    ∙ ap (λ (h : ℕ). split_mix (bit_xor h a.serial)) (c.splitmix64-salted.ensures
    ∙ ap (λ (s : ℕ). split_mix (bit_xor s a.salt)) shifted))
