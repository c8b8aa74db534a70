use Rattle.std.proofs.Common.{rules, ap, ◌∙◌}
use Rattle.streets.specs.declared.refusal.Refusal.TheVariants.{RecordOutside}
use Rattle.map_file.specs.Reading.{points, records, arc_at, is_within, fault_at}
use Rattle.map_file.proofs.Firsts.{first_from_find, refused_at}
use Rattle.map_file.proofs.reading.Sheet.check_records.Goals as goal

pub returns : goal.returns
returns c =
    let b = c.args.self.now.bytes.now in
    let found = first_from_find (λ i. is_within (points b) (arc_at b i)) (records b) _ _ _ c.find.result (search rules) c.find.ensures.ran (λ i fails q k. search rules) in
    refused_at RecordOutside c.find.result c.map_or.result _ _ c.map_or.ensures (λ p. search rules) (λ i p. search rules) ∙ ap (fault_at RecordOutside) found
