use Rattle.std.proofs.Common.{map, refl, ap, ◌∙◌}
use Rattle.std.proofs.lemmas.Result.{err_from_is_err_and}
use Rattle.rule_text.specs.Statements.{stated}
use Rattle.rule_book.specs.Terms.{book_terms}
use Rattle.rule_book.proofs.book.RuleBook.load.Goals as goal

-- a text that is accepted keeps to the limit on terms
pub invariant_of-drop : goal.invariant_of-drop
invariant_of-drop c = record {
  collected = c.in_ok-terms.ensures ∙ ap (λ rules. book_terms (map stated rules)) c.rules.ensures;
  few = c.in_ok-load.ensures.loads.0.within.terms;
}

pub returns-in_err-load-clause-read : goal.returns-in_err-load-clause-read
returns-in_err-load-clause-read c =
    let p = err_from_is_err_and c.from_residual.result c.from_residual.ensures.1 in
    rw (p.1, p.2) (c.in_err-load.ensures.loads.0, refl)
