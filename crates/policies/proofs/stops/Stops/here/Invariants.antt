use Rattle.std.proofs.Common.{◌≡◌, nat_eq, get_or}
use Rattle.policies.specs.Places.{packed}
use Rattle.policies.proofs.stops.Stops.here.Given as goal

abbrev pub invariant-loop-place : goal.invariant-loop-place
invariant-loop-place l = l.word ≡ packed (λ i. nat_eq (get_or l.stop-items i 0) l.point) l.place
