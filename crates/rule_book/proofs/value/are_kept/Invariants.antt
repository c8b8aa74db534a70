use Rattle.std.proofs.Common.{◌≡◌, map, drop}
use Rattle.rule_text.specs.Statements.{stated}
use Rattle.rule_book.specs.Marking.{kept}
use Rattle.rule_book.proofs.value.are_kept.Given as goal

-- what is left decides
abbrev pub invariant-loop-rule : goal.invariant-loop-rule
invariant-loop-rule l = kept (map stated (drop l.rule-index l.rules)) l.bits.left 0 l.point ≡ kept (map stated l.rules) l.word 0 l.point
