-- How the code of a book follows its definitions.
use Rattle.std.specs.Prelude.{◌≡◌, ◌≢◌, cond, List, map, length, Some, None, Option, Ok, Err, vec_items, Result, Vec, nat_lt}
use Rattle.std.specs.declared.alloc.Global.{Global}
use Rattle.rule_tokens.specs.Lex.{Lexeme, is_end}
use Rattle.rule_tokens.specs.declared.fault.Fault.{Fault}
use Rattle.rule_tokens.specs.declared.fault.Fault.TheVariants.{Limit, Memory}
use Rattle.rule_exprs.specs.Grammar.{St, Out, gives, fails, bind, ◌>>=◌, token}
use Rattle.rule_exprs.specs.Follow.{Fails}
use Rattle.rule_text.specs.declared.rule.RuleKind.{RuleKind}
use Rattle.rule_text.specs.declared.rule.Rule.{Rule}
use Rattle.rule_text.specs.declared.book.Book.{Book}
use Rattle.rule_text.specs.Limits.{rules_limit}
use Rattle.rule_text.specs.Statements.{Statement, stated, contents}
use Rattle.rule_text.specs.Books.{a_kind, a_rule, Verdict, accepts, refuses}

-- the kind of the rule that begins at t, whatever was read before
abbrev pub Begins : Result RuleKind Fault → Lexeme → Type 0
Begins (Ok k) t = (s : St) → a_kind t s ≡ gives k s
Begins (Err f) t = (s : St) → Fails f (a_kind t s)

-- after the rules rs: none where the text ends, and otherwise one more
abbrev pub next_or_end : List Statement → St → Out (Option Statement)
next_or_end rs = token >>= λ t s. cond (is_end t.word) (gives None s) (bind (a_kind t s) (λ k. cond (nat_lt (length rs) rules_limit) (a_rule rs k >>= λ r. gives (Some r)) (λ _. fails (Limit t.place))))

-- the rules that were read are those accepted; want of memory says nothing
abbrev pub Judges : Result (Vec Rule Global) Fault → Verdict → Type 0
Judges (Ok rules) v = v ≡ accepts (map stated (vec_items rules))
Judges (Err f) v = f ≢ Memory → v ≡ refuses f

-- the book after is what was accepted, and the book before on a refusal
abbrev pub Replaces : Result (Unit {0}) Fault → Verdict → Book → Book → Type 0
Replaces (Ok u) v old new = v ≡ accepts (contents new)
Replaces (Err f) v old new = (f ≢ Memory → v ≡ refuses f) × (new ≡ old)
