use Rattle.std.proofs.Common.{arith}
use Rattle.std.proofs.lemmas.Nat.{and_mask}
use Rattle.std.proofs.lemmas.Nat.Bits.{ones_shr}
use Rattle.policies.specs.Limits.{width_limit}
use Rattle.policies.proofs.Shifts.{shr_any}
use Rattle.policies.proofs.halves.Halves.low.Goals as goal

pub returns : goal.returns
returns c = grind (arith, and_mask, shr_any, ones_shr width_limit)
