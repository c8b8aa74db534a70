-- A book that a text replaces is the one that the text spells.
use Rattle.std.proofs.Common.{ℕ, List, Ok, Err, Result, sym, ◌∙◌}
use Rattle.rule_tokens.specs.declared.fault.Fault.{Fault}
use Rattle.rule_text.specs.declared.book.Book.{Book}
use Rattle.rule_text.specs.Statements.{contents}
use Rattle.rule_text.specs.Books.{verdict}
use Rattle.rule_text.specs.Following.{Replaces}
use Rattle.rule_text.specs.Loads.{Loads}
use Rattle.rule_text.proofs.SpellingSound.{spells}
use Rattle.rule_text.proofs.SpellingComplete.{accepted}

pub loaded : (r : Result (Unit {0}) Fault) (text : List ℕ) (old new : Book) → Replaces r (verdict text) old new → Loads r text old new
loaded (Ok u) text old new h = (spells text (contents new) h, λ rs s. let e = sym (accepted text rs s) ∙ h in cc)
loaded (Err f) text old new h = (λ m. (h.0 m, λ rs s. let e = sym (accepted text rs s) ∙ h.0 m in cc), h.1)
