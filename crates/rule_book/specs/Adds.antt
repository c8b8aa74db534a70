-- What a call adds to a list of terms.
use Rattle.std.specs.Prelude.{◌≡◌, List, ◌++◌, Ok, Err, Result}
use Rattle.rule_tokens.specs.declared.fault.Fault.{Fault}
use Rattle.rule_tokens.specs.declared.fault.Fault.TheVariants.{Memory}
use Rattle.rule_book.specs.declared.term.Term.{Term}

-- some terms are added at the end; the only fault is want of memory
abbrev pub Adds : Result (Unit {0}) Fault → List Term → List Term → List Term → Type 0
Adds (Ok u) before after added = after ≡ before ++ added
Adds (Err f) before after added = f ≡ Memory
