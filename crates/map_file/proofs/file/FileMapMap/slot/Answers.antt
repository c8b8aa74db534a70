use Rattle.std.proofs.Common.{arith}
use Rattle.map_file.specs.Files.{slot_inside}
use Rattle.map_file.proofs.file.FileMapMap.slot.Goals as goal

pub arc_at-requires : goal.arc_at-requires
arc_at-requires c =
    let f = c.args.self.now in
    let inside = slot_inside f.sheet.bytes.now f.readable.line f.readable.full c.args.point c.args.index (omega arith) (omega arith) in
    omega arith
