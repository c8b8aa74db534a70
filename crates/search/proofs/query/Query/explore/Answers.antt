use Rattle.std.proofs.Common.{◌≡◌, ◌<◌, ◌≤◌, length, refl, arith, rules}
use Rattle.std.proofs.lemmas.Grind.{common_steps}
use Rattle.search.proofs.Loops.{settling_first, stuck_none, arrive, enter, slots-on, slots-fail}
use Rattle.search.proofs.query.Query.explore.Goals as goal

pub settling-init : goal.settling-init
settling-init g c = rw (c.departing.ensures, c.depart.ensures) (settling_first c.args.pool.now refl c.requires.some_labels)

pub offset_bounds-pool-place : goal.offset_bounds-pool-place
offset_bounds-pool-place g c =
    let low : c.in-Some.place < length c.args.pool.now = grind (arith, common_steps) in
    search rules

pub slots-init : goal.slots-init
slots-init g c = rw c.settle.ensures (enter c.settling.invariant c.if-settled-size.false c.in-Some.ensures.first c.if-has_arrived.ensures)

pub slots-preserved : goal.slots-preserved
slots-preserved g c =
    let same : length c.follow.new.pool ≡ length c.args.pool.now = search rules in
    let fits : c.in-Some-follow.more ≤ length c.follow.new.pool = search rules in
    slots-on c.slots.invariant c.follow.new.pool c.in-Some-follow.more same fits c.in-Some-follow.ensures.pinned

pub returns-in_default : goal.returns-in_default
returns-in_default g c = stuck_none c.settling.invariant c.in_default.ensures.first

pub returns-then-has_arrived : goal.returns-then-has_arrived
returns-then-has_arrived g c =
    rw (c.settle.ensures, c.tour.ensures) (arrive c.settling.invariant c.if-settled-size.false c.in-Some.ensures.first c.if-has_arrived.ensures)

pub returns-in_default-follow : goal.returns-in_default-follow
returns-in_default-follow g c =
    let more = rw c.slots-index-end.ensures at c.slots-test.true in
    slots-fail c.slots.invariant more c.in_default-follow.ensures.pinned
