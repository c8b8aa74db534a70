use Rattle.std.proofs.Common.{rules, Ok}
use Rattle.map_file.proofs.Encoding.{decides, means_stated}
use Rattle.map_file.proofs.Faults.{readable_from_none}
use Rattle.map_file.proofs.file.FileMap.open.Goals as goal

pub returns-in_err-sheet-clause-encoded : goal.returns-in_err-sheet-clause-encoded
returns-in_err-sheet-clause-encoded c = decides c.args.bytes.now (λ i. (c.type_inv.bytes i).fits) _ (search rules)

pub returns-in_err-check-clause-encoded : goal.returns-in_err-check-clause-encoded
returns-in_err-check-clause-encoded c = decides c.args.bytes.now (λ i. (c.type_inv.bytes i).fits) _ (search rules)

pub invariant_of-result : goal.invariant_of-result
invariant_of-result c =
    let sheet = c.in_ok-sheet.sheet in
    record { readable = readable_from_none sheet.bytes.now sheet.sized (search rules) }

pub returns-clause-encoded : goal.returns-clause-encoded
returns-clause-encoded c = decides c.args.bytes.now (λ i. (c.type_inv.bytes i).fits) (Ok c.in_ok-check.field-0) (search rules)

pub returns-clause-means : goal.returns-clause-means
returns-clause-means c = means_stated c.args.bytes.now c.in_ok-sheet.sheet.bytes.now (search rules)
