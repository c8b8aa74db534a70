use Rattle.std.proofs.Common.{rules, arith}
use Rattle.std.proofs.lemmas.Grind.{common_steps}
use Rattle.std.proofs.lemmas.Str.{is_utf8-from_IsUtf8, IsUtf8-from_is_utf8}
use Rattle.script.proofs.lines.map_line.Goals as goal

pub returns-in_err-path : goal.returns-in_err-path
returns-in_err-path c = grind (arith, common_steps, is_utf8-from_IsUtf8, IsUtf8-from_is_utf8)

pub returns : goal.returns
returns c = search (rules, is_utf8-from_IsUtf8, IsUtf8-from_is_utf8)
