use Rattle.std.proofs.Common.{◌≡◌, ◌++◌, length, drop}
use Rattle.search.specs.declared.label.Label.{Label}
use Rattle.search.specs.Links.{traced, Linked}
use Rattle.search.proofs.route.write_route.Given as goal

abbrev pub invariant-loop-k : goal.invariant-loop-k
invariant-loop-k g l = record {
  linked : (d : Label g.row.C.Denot) → Linked l.labels d l.k l.at;
  written : (d : Label g.row.C.Denot) → traced l.labels d (length l.initial.route) l.place ≡ traced l.labels d l.k l.at ++ drop l.k l.route;
}
