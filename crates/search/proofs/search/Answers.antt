use Rattle.std.proofs.Common.{◌≤◌, length, ap, ◌∙◌, arith, length-take-le}
use Rattle.std.proofs.lemmas.Grind.{common_steps}
use Rattle.streets.specs.Network.{network}
use Rattle.search.specs.Links.{departing, traced}
use Rattle.search.proofs.Answering.{sound_search, gives_tour}
use Rattle.search.proofs.search.Goals as goal

pub returns-in_err-check-clause-sound : goal.returns-in_err-check-clause-sound
returns-in_err-check-clause-sound g c =
    sound_search g.met.C.Cost.lawful (g.P.Policy.lawful c.args.policy.now) (network (g.M.Map.view c.args.map.now)) c.args.start c.args.goal (length c.args.pool.now)

pub returns-in_err-place-clause-sound : goal.returns-in_err-place-clause-sound
returns-in_err-place-clause-sound g c =
    sound_search g.met.C.Cost.lawful (g.P.Policy.lawful c.args.policy.now) (network (g.M.Map.view c.args.map.now)) c.args.start c.args.goal (length c.args.pool.now)

pub returns-clause-given : goal.returns-clause-given
returns-clause-given g c =
    let d = departing g.C.Cost.kind 0 0 in
    let n = c.in_ok-place.tour.count in
    let fits : c.in_ok-place.tour.count ≤ length c.args.route.now = grind (arith, common_steps) in
    let all = ap (λ k. traced c.explore.new.pool d k c.in_ok-place.place) (length-take-le n c.args.route.now fits) in
    gives_tour c.args.pool.now c.args.route.now c.in_ok-check.ensures c.in_ok-place.ensures d (c.write_route.ensures d ∙ all)

pub returns-clause-sound : goal.returns-clause-sound
returns-clause-sound g c =
    sound_search g.met.C.Cost.lawful (g.P.Policy.lawful c.args.policy.now) (network (g.M.Map.view c.args.map.now)) c.args.start c.args.goal (length c.args.pool.now)
