use Rattle.std.proofs.Common.{◌≡◌, ◌==◌, rules, ap, ◌∙◌}
use Rattle.streets.specs.declared.refusal.Refusal.TheVariants.{PairOutOfLine}
use Rattle.map_file.specs.Reading.{points, records, is_in_line, end_before, first_failing, first_or, fault_at}
use Rattle.map_file.proofs.Firsts.{first_from_find, first_or_last, refused_at}
use Rattle.map_file.proofs.reading.Sheet.check_pairs.Goals as goal

pub returns : goal.returns
returns c =
    let b = c.args.self.now.bytes.now in
    let n = points b in
    let found = first_from_find (is_in_line b) n _ _ _ c.find.result (search rules) c.find.ensures.ran (λ i fails q k. search rules) in
    let last = first_or_last c.find.result (end_before b n == records b) n in
    let both : c.or.result ≡ first_or (first_failing (is_in_line b) n) (end_before b n == records b) n = cc in
    refused_at PairOutOfLine c.or.result c.map_or.result _ _ c.map_or.ensures (λ p. search rules) (λ i p. search rules) ∙ ap (fault_at PairOutOfLine) both
