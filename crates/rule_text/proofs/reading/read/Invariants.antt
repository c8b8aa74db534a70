use Rattle.std.proofs.Common.{◌≡◌, ◌-◌, ◌≤◌, [], length, map, vec_items, vec_len}
use Rattle.rule_exprs.specs.Grammar.{start}
use Rattle.rule_text.specs.Limits.{rules_limit}
use Rattle.rule_text.specs.Statements.{stated}
use Rattle.rule_text.specs.Books.{rules_from}
use Rattle.rule_text.proofs.reading.read.Given as goal

abbrev pub invariant-loop-rules : goal.invariant-loop-rules
invariant-loop-rules l = (length (map stated (vec_items l.rules)) ≤ rules_limit) × (rules_from (rules_limit - length (map stated (vec_items l.rules))) (map stated (vec_items l.rules)) l.parser ≡ rules_from rules_limit [] (start l.text))

abbrev pub decreases-loop-rules : goal.decreases-loop-rules
decreases-loop-rules l = rules_limit - vec_len l.rules
