-- How the parser follows the grammar.
use Rattle.std.specs.Prelude.{◌≡◌, ℕ, cond, Some, None, Ok, Err, Option, Result, nat_lt}
use Rattle.rule_tokens.specs.Lex.{Lexeme}
use Rattle.rule_tokens.specs.Seen.{seen}
use Rattle.rule_tokens.specs.declared.token.Token as tokens
use Rattle.rule_tokens.specs.declared.fault.Fault.{Fault}
use Rattle.rule_tokens.specs.declared.fault.Fault.TheVariants.{Token, Order, Value, Limit, Memory}
use Rattle.rule_exprs.specs.Limits.{members_least, members_limit}
use Rattle.rule_exprs.specs.Grammar.{St, Out, gives, fails, ◌>>=◌, token, is_close}

-- nothing is said where memory fails
abbrev pub Fails : {A : Type 0} → Fault → Out A → Type 0
Fails (Token p) o = o ≡ fails (Token p)
Fails (Order p) o = o ≡ fails (Order p)
Fails (Value p) o = o ≡ fails (Value p)
Fails (Limit p) o = o ≡ fails (Limit p)
Fails Memory o = Unit {0}

-- the code returned r and left s, where the grammar says o
abbrev pub Follows : {X A : Type 0} → (X → A) → Result X Fault → St → Out A → Type 0
Follows f (Ok x) s o = o ≡ gives (f x) s
Follows f (Err e) s o = Fails e o

-- after n members of a bracket: none where it closes, and otherwise the first token of one more
abbrev pub next_member : ℕ → St → Out (Option Lexeme)
next_member n = token >>= λ t s. cond (is_close t.word) (cond (nat_lt n members_least) (fails (Order t.place)) (gives None s)) (cond (nat_lt n members_limit) (gives (Some t) s) (fails (Order t.place)))

abbrev pub seen_if : Option tokens.Token → Option Lexeme
seen_if (Some t) = Some (seen t)
seen_if None = None
