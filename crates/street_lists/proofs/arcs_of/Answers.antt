use Rattle.std.proofs.Common.{sym, ◌∙◌, append-nil}
use Rattle.streets.specs.Network.{listed}
use Rattle.streets.specs.Facts.{listed_more}
use Rattle.street_lists.proofs.arcs_of.Goals as goal
use Rattle.street_lists.proofs.arcs_of.Goals.{in-Some+in_ok-push, in_default}

pub loop-k-preserved : goal.loop-k-preserved
loop-k-preserved g c =
    let f = (g.M.Map.view c.args.map.now).slot c.args.point in
    let k = c.loop-k.k in
    let inv = c.loop-k.invariant in
    elim c.match-slot.branch [
      | in-Some+in_ok-push w ↦ let p = w.in_ok-push.ensures.items in let e = listed_more f k _ (sym c.slot.ensures ∙ w.in-Some.is) in cc
      | in_default w ↦ let n = append-nil (listed f k) in let e = listed_more f k _ (sym c.slot.ensures ∙ w.in_default.is) in cc
    ]
