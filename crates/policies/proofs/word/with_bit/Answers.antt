use Rattle.std.proofs.Common.{arith}
use lib.Bits.{or_zero_r}
use Rattle.std.proofs.lemmas.Bool.Decides.{nat_tests}
use Rattle.policies.proofs.word.with_bit.Goals as goal

pub returns-else-set : goal.returns-else-set
returns-else-set c = grind (arith, nat_tests, or_zero_r)
