-- How a word keeps count of a walk's events, a bit for each term, and what it says of a book in the end.
use Rattle.std.specs.Prelude.{ℕ, ◌+◌, ◌-◌, ◌^◌, Bool, true, false, cond, not, ◌&&◌, ◌||◌, List, [], ◌∷◌, length, ◌==◌, nat_lt, slice_index_or}
use Rattle.policies.specs.Places.{packed, bit}
use Rattle.policies.specs.Automaton.{Automaton}
use Rattle.rule_exprs.specs.declared.expr.Place.{Place}
use Rattle.rule_exprs.specs.declared.expr.Place.TheVariants as place
use Rattle.rule_exprs.specs.Formulas.{Formula, at_point, use_arc, from_point, to_point, negation, conjunction, disjunction, sequence, Formulas, none, more, marks}
use Rattle.rule_text.specs.Statements.{Statement}
use Rattle.rule_book.specs.declared.event.Event.{Event}
use Rattle.rule_book.specs.declared.event.Event.TheVariants.{Depart, Cross, Arrive}
use Rattle.rule_book.specs.declared.term.Mark.{Mark}
use Rattle.rule_book.specs.declared.term.Mark.TheVariants as mark
use Rattle.rule_book.specs.declared.term.Term.{Term}
use Rattle.rule_book.specs.Events.{meets, departs}
use Rattle.rule_book.specs.Meaning.{breaks}
use Rattle.rule_book.specs.Terms.{book_terms}

abbrev pub notes : Mark → Event → Bool
notes (mark.Place q) = meets q
notes (mark.From v) = departs v

abbrev pub term : List Term → ℕ → Term
term ts i = slice_index_or ts i (record { mark = mark.Place (place.At 0); chained = false })

-- whether term i may be marked: one in a chain where the term before it is marked
abbrev pub ready : Bool → ℕ → ℕ → Bool
ready chained w i = not chained || (i == 0 || bit w (i - 1))

-- whether bit i is set after an event: it was, or the event is what the term waits for
abbrev pub sets : List Term → ℕ → Event → ℕ → Bool
sets ts w e i = bit w i || (ready (term ts i).chained w i && notes (term ts i).mark e)

-- the word after an event
abbrev pub marked : List Term → ℕ → Event → ℕ
marked ts w e = packed (sets ts w e) (length ts)

-- the bit of the last of some places whose bits stand from k on; without one, as given
abbrev pub latest : List Place → ℕ → ℕ → Bool → Bool
latest [] w k given = given
latest (q ∷ qs) w k given = latest qs w (k + 1) (bit w k)

-- what a word says of an expression whose bits stand from k on, where the walk ends at p
abbrev mutual
  pub value : Formula → ℕ → ℕ → ℕ → Bool
  value (at_point n) w k p = bit w k
  value (use_arc n) w k p = bit w k
  value (from_point n) w k p = bit w k
  value (to_point n) w k p = n == p
  value (negation f) w k p = not (value f w k p)
  value (conjunction fs) w k p = all_values fs w k p
  value (disjunction fs) w k p = one_value fs w k p
  value (sequence ps) w k p = latest ps w k true

  pub all_values : Formulas → ℕ → ℕ → ℕ → Bool
  all_values none w k p = true
  all_values (more f fs) w k p = value f w k p && all_values fs w (k + marks f) p

  pub one_value : Formulas → ℕ → ℕ → ℕ → Bool
  one_value none w k p = false
  one_value (more f fs) w k p = value f w k p || one_value fs w (k + marks f) p

-- how many bits a rule has
abbrev pub rule_marks : Statement → ℕ
rule_marks r = marks r.condition + marks r.consequence

-- what a word says of a rule whose bits stand from k on, those of the condition first: whether it is not broken
abbrev pub rule_kept : Statement → ℕ → ℕ → ℕ → Bool
rule_kept r w k p = not (breaks r.kind (value r.condition w k p) (value r.consequence w (k + marks r.condition) p))

-- whether none of some rules is broken
abbrev pub kept : List Statement → ℕ → ℕ → ℕ → Bool
kept [] w k p = true
kept (r ∷ rs) w k p = rule_kept r w k p && kept rs w (k + rule_marks r) p

-- what a book answers as a policy
abbrev pub ruling : List Statement → Automaton
ruling rs = record {
  width = length (book_terms rs);
  depart = λ p. marked (book_terms rs) 0 (Depart p);
  cross = λ w n h. cond (nat_lt w (2 ^ length (book_terms rs))) (marked (book_terms rs) (marked (book_terms rs) w (Cross n)) (Arrive h)) 0;
  ends = λ w p. nat_lt w (2 ^ length (book_terms rs)) && kept rs w 0 p;
}
