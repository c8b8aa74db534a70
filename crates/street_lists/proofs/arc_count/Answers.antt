use Rattle.std.proofs.Common.{ℕ, length, sym, ◌∙◌, rules, tests, arith}
use Rattle.std.specs.List.{range_with_len}
use Rattle.std.proofs.lemmas.Iterator.{YieldsList-from_range, YieldsList-from_map}
use Rattle.std.proofs.lemmas.Iterator.Consumers.{sum_by_from_yields_List, fits_by_from_yields_list}
use Rattle.streets.specs.Network.{network}
use Rattle.street_lists.proofs.Totals.{arcs_few}
use Rattle.street_lists.proofs.Walks.{arc_total-sum_by}
use Rattle.street_lists.proofs.arc_count.Goals as goal

pub sum-requires-clause-fits : goal.sum-requires-clause-fits
sum-requires-clause-fits g c =
    let m = c.args.map.now in
    let v = g.M.Map.view m in
    let n = v.points in
    let count : ℕ → ℕ = λ p. length ((network v).arcs p) in
    fits_by_from_yields_list count (range_with_len 0 n) c.map.result _ (YieldsList-from_map _ count (YieldsList-from_range 0 n n (cc) (omega arith)) c.map.ensures.closure (λ x r q k. search (rules, tests))) (omega (arith, arcs_few v (g.M.Map.lawful m) n, arc_total-sum_by (network v).arcs n))

pub returns : goal.returns
returns g c =
    let m = c.args.map.now in
    let v = g.M.Map.view m in
    let n = v.points in
    let count : ℕ → ℕ = λ p. length ((network v).arcs p) in
    let sums = sum_by_from_yields_List count (range_with_len 0 n) c.map.result _ c.sum.ensures.ran (YieldsList-from_map _ count (YieldsList-from_range 0 n n (cc) (omega arith)) c.map.ensures.closure (λ x r q k. search (rules, tests))) in
    let value = sums ∙ sym (arc_total-sum_by (network v).arcs n) in
    let few = arcs_few v (g.M.Map.lawful m) n in
    record { value = value; few = omega arith }
