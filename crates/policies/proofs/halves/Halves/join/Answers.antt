use Rattle.std.proofs.Common.{arith, pow_mono, mod-eq_of_lt}
use Rattle.std.proofs.lemmas.Nat.{or_shifted}
use Rattle.std.proofs.lemmas.Bool.Decides.{nat_tests}
use Rattle.policies.specs.Pairing.{joined_lt}
use Rattle.policies.proofs.halves.Halves.join.Goals as goal

-- the word above, shifted, is not cut off
pub returns : goal.returns
returns c =
    let halves = c.args.self in
    let high = c.args.high in
    let low = c.args.low in
    let below = joined_lt halves.high halves.low high low c.requires.high_fits c.requires.low_fits in
    let within = pow_mono halves.narrow in
    grind (arith, nat_tests, mod-eq_of_lt, or_shifted high halves.low low c.requires.low_fits)
