use Rattle.std.proofs.Common.{◌≡◌, ◌^◌, ◌<◌, take}
use Rattle.rule_tokens.specs.Lex.{value}
use Rattle.rule_tokens.proofs.reader.value_of.Given as goal

abbrev pub invariant-loop-b : goal.invariant-loop-b
invariant-loop-b l = (l.sum ≡ value (take l.b-index l.digits)) × (l.sum < 10 ^ l.b-index)
