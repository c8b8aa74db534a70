use Rattle.std.proofs.Common.{◌≡◌, suc, ◌-◌, ◌<◌, length, ◌∙◌, arith, rules}
use Rattle.search.specs.Links.{departing}
use Rattle.search.proofs.Trails.{linked_here, linked_on, traced-on}
use Rattle.search.proofs.route.write_route.Goals as goal

pub offset_bounds-labels-at : goal.offset_bounds-labels-at
offset_bounds-labels-at g c =
    let d = departing g.C.Cost.kind 0 0 in
    let one : c.loop-k.k ≡ suc (c.loop-k.k - 1) = omega arith in
    let h = linked_here c.args.labels.now d c.loop-k.k (c.loop-k.k - 1) c.loop-k.at one (c.loop-k.invariant.linked d) in
    omega arith

pub bounds-labels-at : goal.bounds-labels-at
bounds-labels-at g c =
    let d = departing g.C.Cost.kind 0 0 in
    let one : c.loop-k.k ≡ suc (c.loop-k.k - 1) = omega arith in
    linked_here c.args.labels.now d c.loop-k.k (c.loop-k.k - 1) c.loop-k.at one (c.loop-k.invariant.linked d)

pub loop-k-preserved : goal.loop-k-preserved
loop-k-preserved g c =
    let n = c.loop-k.k - 1 in
    let xs = c.args.labels.now in
    let x = c.index-labels-at.result in
    let one : c.loop-k.k ≡ suc (c.loop-k.k - 1) = omega arith in
    let room : c.loop-k.k - 1 < length c.loop-k.route = search rules in
    record {
      linked = λ d. linked_on xs d c.loop-k.k n c.loop-k.at one (c.loop-k.invariant.linked d) x c.index-labels-at.is;
      written = λ d. c.loop-k.invariant.written d ∙ traced-on xs d c.loop-k.k n c.loop-k.at one (c.loop-k.invariant.linked d) x c.index-labels-at.is c.loop-k.route room;
    }
