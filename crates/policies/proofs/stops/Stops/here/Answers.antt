use Rattle.std.proofs.Common.{ℕ, Bool, eqb, get_or, arith}
use Rattle.std.proofs.lemmas.Bool.Decides.{nat_tests}
use Rattle.policies.specs.Places.{packed_with}
use Rattle.policies.specs.Stopping.{few_doorsteps}
use Rattle.policies.proofs.stops.Stops.here.Goals as goal

pub loop-place-preserved : goal.loop-place-preserved
loop-place-preserved c =
    let f : ℕ → Bool = λ i. eqb (get_or c.stops-stop-items.result.now i 0) c.args.point in
    grind (arith, nat_tests, few_doorsteps c.args.self.now, packed_with f c.loop-place.place c.loop-place.word c.loop-place.invariant)
