use Rattle.std.proofs.Common.{◌≡◌, ◌++◌, map, drop, vec_items}
use Rattle.rule_text.specs.Statements.{stated}
use Rattle.rule_book.specs.Terms.{book_terms}
use Rattle.rule_book.proofs.collect.terms_of.Given as goal

-- with the terms of what is left, those of all
abbrev pub invariant-loop-rule : goal.invariant-loop-rule
invariant-loop-rule l = vec_items l.terms ++ book_terms (map stated (drop l.rule-index l.rules)) ≡ book_terms (map stated l.rules)
