use Rattle.std.proofs.Common.{◌≡◌, None}
use Rattle.map_file.specs.Reading.{is_new, first_failing}
use Rattle.map_file.proofs.Numbers.{Met}
use Rattle.map_file.proofs.reading.Sheet.check_numbers.Given as goal

abbrev pub invariant-loop-i : goal.invariant-loop-i
invariant-loop-i l = record { none : first_failing (is_new l.self.bytes.now) l.i ≡ None; met : Met l.self.bytes.now l.seen.table l.i }
