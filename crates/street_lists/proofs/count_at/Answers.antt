use Rattle.std.proofs.Common.{length, sym, ap, ◌∙◌, arith, length-append}
use Rattle.std.specs.Option.{option_to_list}
use Rattle.streets.specs.Network.{listed}
use Rattle.streets.specs.Facts.{listed_more}
use Rattle.street_lists.proofs.count_at.Goals as goal
use Rattle.street_lists.proofs.count_at.Goals.{in-Some, in_default}

pub loop-index-preserved : goal.loop-index-preserved
loop-index-preserved g c =
    let f = (g.M.Map.view c.args.map.now).slot c.args.point in
    let k = c.loop-index.index in
    let more = ap length (listed_more f k _ (sym c.slot.ensures)) ∙ length-append (listed f k) (option_to_list c.slot.result) in
    elim c.match-slot.branch [
      | in-Some w ↦ let one = ap (λ o. length (option_to_list o)) w.in-Some.is in (omega arith, omega arith)
      | in_default w ↦ let none = ap (λ o. length (option_to_list o)) w.in_default.is in (omega arith, omega arith)
    ]
