use Rattle.std.proofs.Common.{◌≡◌, ◌≤◌, length}
use Rattle.streets.specs.Network.{listed}
use Rattle.street_lists.proofs.count_at.Given as goal

abbrev pub invariant-loop-index : goal.invariant-loop-index
invariant-loop-index g l = (l.count ≤ l.index) × (l.count ≡ length (listed ((g.M.Map.view l.map).slot l.point) l.index))
