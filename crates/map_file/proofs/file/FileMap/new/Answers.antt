use Rattle.map_file.specs.Reading.{file, MeansStated}
use Rattle.map_file.proofs.Encoding.{kept}
use Rattle.map_file.proofs.file.FileMap.new.Goals as goal

pub returns-clause-means : goal.returns-clause-means
returns-clause-means c = λ lists valid e.
    let means = kept (λ map. MeansStated c.args.bytes.now (file map.sheet.bytes.now)) c.open.result _ (c.open.ensures.encoded.1 (lists, valid, e)) c.open.ensures.means in
    rw c.unwrap_or.ensures (means lists valid e)
