use Rattle.std.proofs.Common.{◌≡◌, ◌++◌, false, nat_lt, drop, vec_items}
use Rattle.rule_book.specs.Terms.{place_terms}
use Rattle.rule_book.proofs.collect.add_places.Given as goal

-- with the terms of what is left, those of all
abbrev pub invariant-loop-i : goal.invariant-loop-i
invariant-loop-i l = vec_items l.terms ++ place_terms (drop l.i l.places) (nat_lt 0 l.i) ≡ vec_items l.fn.terms ++ place_terms l.places false
