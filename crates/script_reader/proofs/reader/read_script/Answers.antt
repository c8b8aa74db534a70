use Rattle.script_reader.proofs.Accepting.{accepts}
use Rattle.script_reader.proofs.Kept.{read_back}
use Rattle.script_reader.proofs.reader.read_script.Goals as goal

pub returns : goal.returns
returns c =
    let ends = c.read_lines.ensures in
    record {
      reads = ends;
      accepts = accepts c.read_lines.result c.args.text.now ends;
      reads_back = read_back c.read_lines.result c.args.text.now ends;
    }
