use Rattle.std.proofs.Common.{◌≡◌, List, ◌++◌, length}
use Rattle.search.specs.declared.label.Label.{Label}
use Rattle.search.specs.Links.{first_from}
use Rattle.search.proofs.pool.least.Given as goal

abbrev pub invariant-loop-place : goal.invariant-loop-place
invariant-loop-place g l =
    let ahead = l.place-iterator.iter.iter.rest.now in
    (l.place-iterator.iter.count ≡ 0)
    × ((passed : List (Label g.row.C.Denot)) × ((l.labels ≡ ahead ++ passed) × (l.best ≡ first_from g.C.Cost.kind (length ahead) passed)))
