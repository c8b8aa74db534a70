use Rattle.std.proofs.Common.{◌≡◌, ◌++◌, drop, vec_items}
use Rattle.rule_exprs.specs.Formulas.{shapes}
use Rattle.rule_book.specs.Terms.{all_terms}
use Rattle.rule_book.proofs.collect.+add_expr.Given as goal

-- with the terms of what is left, those of all
abbrev pub invariant-loop-member : goal.invariant-loop-member
invariant-loop-member l = vec_items l.terms ++ all_terms (shapes (drop l.member-index l.member-items)) ≡ vec_items l.fn.terms ++ all_terms (shapes l.member-items)
