-- The theorem, by the laws that the policy and the kind of cost bring.
use Rattle.search_laws.proofs.Optimal.{search_right}
use Rattle.search_laws.proofs.Brief.{search_brief}
use Rattle.search_laws.proofs.Roomy.{search_roomy}
use Rattle.search_laws.proofs.Steady.{search_steady}
use Rattle.search_laws.proofs.search_is_right.Goals as goal

pub returns : goal.returns
returns g c =
    let kind = g.C.Cost.kind in
    let costs = g.met.C.Cost.lawful in
    let policy = c.args.policy.now in
    let automaton = g.P.Policy.automaton policy in
    let permits = g.P.Policy.permits policy in
    let policies = g.P.Policy.lawful policy in
    record {
      sound = λ N start goal pool. (search_right kind costs N automaton permits policies start goal pool, search_brief N kind automaton start goal pool);
      roomy = λ N start goal pool. search_roomy kind costs N automaton permits policies start goal pool;
      steady = λ N start goal pool larger. search_steady kind costs N automaton start goal pool larger;
    }
