-- What a walk costs.
use Rattle.std.specs.Prelude.{List, [], ◌∷◌}
use Rattle.streets.specs.declared.arc.Arc.{Arc}
use Rattle.costs.specs.Kind.{Kind}

-- the cost after the arcs, from the cost v on
abbrev pub cost_from : {V : Type 0} → Kind V → V → List Arc → V
cost_from K v [] = v
cost_from K v (a ∷ bs) = cost_from K (K.plus v a.weight) bs

-- A walk's cost starts at zero and takes in the arcs in order.
abbrev pub cost_of : {V : Type 0} → Kind V → List Arc → V
cost_of K bs = cost_from K K.zero bs
