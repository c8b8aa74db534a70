use Rattle.std.proofs.Common.{◌-◌}
use Rattle.search.proofs.Loops.{Settling, Slotting}
use Rattle.search.proofs.query.Query.explore.Given as goal

abbrev pub invariant-slots : goal.invariant-slots
invariant-slots g l =
    Slotting (g.M.Map.view l.self.map.now) g.C.Cost.kind (g.P.Policy.automaton l.self.policy.now) l.self.start l.self.goal l.size l.pool l.used l.settled l.place l.label l.index

abbrev pub invariant-settling : goal.invariant-settling
invariant-settling g l =
    Settling (g.M.Map.view l.self.map.now) g.C.Cost.kind (g.P.Policy.automaton l.self.policy.now) l.self.start l.self.goal l.size l.pool l.used l.settled

abbrev pub decreases-settling : goal.decreases-settling
decreases-settling g l = l.size - l.settled
