use Rattle.std.proofs.Common.{arith}
use Rattle.std.proofs.lemmas.Nat.Bits.{shr_and_one}
use Rattle.policies.proofs.Shifts.{shr_any}
use Rattle.policies.proofs.word.has_bit.Goals as goal

pub returns : goal.returns
returns c = grind (arith, shr_any, shr_and_one)
