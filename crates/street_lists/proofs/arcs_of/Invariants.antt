use Rattle.std.proofs.Common.{◌≡◌, vec_items}
use Rattle.streets.specs.Network.{listed}
use Rattle.street_lists.proofs.arcs_of.Given as goal

abbrev pub invariant-loop-k : goal.invariant-loop-k
invariant-loop-k g l = vec_items l.arcs ≡ listed ((g.M.Map.view l.map).slot l.point) l.k
