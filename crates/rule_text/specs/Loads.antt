-- What loading a text does to a book.
use Rattle.std.specs.Prelude.{◌≡◌, ℕ, ◌≢◌, List, Ok, Err, Result}
use Rattle.rule_tokens.specs.declared.fault.Fault.{Fault}
use Rattle.rule_tokens.specs.declared.fault.Fault.TheVariants.{Memory}
use Rattle.rule_text.specs.declared.book.Book.{Book}
use Rattle.rule_text.specs.Statements.{Statement, contents}
use Rattle.rule_text.specs.Books.{verdict, refuses}
use Rattle.rule_text.specs.Spelling.{Spells}

-- The book is then what the text spells, and the text spells no other. A refusal leaves the book as it was;
-- it is the verdict on a text that spells no book, or want of memory, which says nothing of the text.
abbrev pub Loads : Result (Unit {0}) Fault → List ℕ → Book → Book → Type 0
Loads (Ok u) text old new = Spells text (contents new) × ((rs : List Statement) → Spells text rs → rs ≡ contents new)
Loads (Err f) text old new = (f ≢ Memory → (verdict text ≡ refuses f) × ((rs : List Statement) → Spells text rs → ⊥)) × (new ≡ old)
