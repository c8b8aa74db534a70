use Rattle.std.proofs.Common.{arith}
use Rattle.policies.proofs.Shifts.{shr_any, shr_zero}
use Rattle.policies.proofs.word.fits.Goals as goal

pub returns : goal.returns
returns c = grind (arith, shr_any, shr_zero)
