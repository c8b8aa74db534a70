-- The marked terms of a book, in the order of its text.
use Rattle.std.specs.Prelude.{Bool, true, false, List, [], ◌∷◌, ◌++◌}
use Rattle.std.specs.List.{flat_map}
use Rattle.rule_exprs.specs.declared.expr.Place.{Place}
use Rattle.rule_exprs.specs.declared.expr.Place.TheVariants as place
use Rattle.rule_exprs.specs.Formulas.{Formula, at_point, use_arc, from_point, to_point, negation, conjunction, disjunction, sequence, Formulas, none, more}
use Rattle.rule_text.specs.Statements.{Statement}
use Rattle.rule_book.specs.declared.term.Mark.{Mark}
use Rattle.rule_book.specs.declared.term.Mark.TheVariants as mark
use Rattle.rule_book.specs.declared.term.Term.{Term}

-- a term by itself
abbrev pub alone : Mark → List Term
alone m = record { mark = m; chained = false } ∷ []

-- the places of a sequence: each but the first waits for the one before
abbrev pub place_terms : List Place → Bool → List Term
place_terms [] chained = []
place_terms (q ∷ qs) chained = record { mark = mark.Place q; chained = chained } ∷ place_terms qs true

abbrev mutual
  pub terms : Formula → List Term
  terms (at_point n) = alone (mark.Place (place.At n))
  terms (use_arc n) = alone (mark.Place (place.Use n))
  terms (from_point n) = alone (mark.From n)
  terms (to_point n) = []
  terms (negation f) = terms f
  terms (conjunction fs) = all_terms fs
  terms (disjunction fs) = all_terms fs
  terms (sequence ps) = place_terms ps false

  pub all_terms : Formulas → List Term
  all_terms none = []
  all_terms (more f fs) = terms f ++ all_terms fs

abbrev pub rule_terms : Statement → List Term
rule_terms r = terms r.condition ++ terms r.consequence

abbrev pub book_terms : List Statement → List Term
book_terms rs = flat_map rule_terms rs
