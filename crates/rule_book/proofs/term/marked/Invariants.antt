use Rattle.std.proofs.Common.{◌≡◌}
use Rattle.policies.specs.Places.{packed}
use Rattle.rule_book.specs.Marking.{sets}
use Rattle.rule_book.proofs.term.marked.Given as goal

abbrev pub invariant-loop-i : goal.invariant-loop-i
invariant-loop-i l = l.next ≡ packed (sets l.terms l.word l.event) l.i
