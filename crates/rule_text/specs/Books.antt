-- How a book is read from a text, and what is wrong with a text that is none.
use Rattle.std.specs.Prelude.{ℕ, zero, suc, Bool, true, false, cond, not, ◌&&◌, List, [], ◌∷◌, ◌++◌, length, Some, None, Option, ◌==◌, nat_le, nat_lt}
use Rattle.std.specs.List.{list_any}
use Rattle.rule_tokens.specs.Lex.{Word, name, numeral, opens, closes, stops, ends, Lexeme, is_end}
use Rattle.rule_tokens.specs.declared.fault.Fault.{Fault}
use Rattle.rule_tokens.specs.declared.fault.Fault.TheVariants.{Order, Value, Limit}
use Rattle.rule_exprs.specs.declared.keyword.Keyword.{Keyword}
use Rattle.rule_exprs.specs.declared.keyword.Keyword.TheVariants.{Ban, Need, Then, At, Use, From, To, Not, And, Or, Seq}
use Rattle.rule_exprs.specs.Grammar.{St, start, Out, gives, fails, bind, ◌>>=◌, token, wanted, keyword_of, number_of, whole}
use Rattle.rule_text.specs.declared.rule.RuleKind.{RuleKind}
use Rattle.rule_text.specs.declared.rule.RuleKind.TheVariants as kind
use Rattle.rule_text.specs.Limits.{text_limit, rules_limit, number_limit}
use Rattle.rule_text.specs.Statements.{Statement}

-- whether an earlier rule has this number
abbrev pub taken : List Statement → ℕ → Bool
taken rs n = list_any (λ r. r.number == n) rs

-- the number of a rule, which none of the earlier rules rs has
abbrev pub fresh : List Statement → St → Out ℕ
fresh rs = token >>= λ t. wanted t.place (number_of t.word) (λ n s. cond (nat_le 1 n && (nat_le n number_limit && not (taken rs n))) (gives n s) (fails (Value t.place)))

abbrev pub is_then : Keyword → Bool
is_then Then = true
is_then Ban = false
is_then Need = false
is_then At = false
is_then Use = false
is_then From = false
is_then To = false
is_then Not = false
is_then And = false
is_then Or = false
is_then Seq = false

abbrev pub a_then : St → Out (Unit {0})
a_then = token >>= λ t. wanted t.place (keyword_of t.word) (λ k s. cond (is_then k) (gives tt s) (fails (Order t.place)))

abbrev pub is_stop : Word → Bool
is_stop (name w) = false
is_stop (numeral n) = false
is_stop opens = false
is_stop closes = false
is_stop stops = true
is_stop ends = false

abbrev pub a_stop : St → Out (Unit {0})
a_stop = token >>= λ t s. cond (is_stop t.word) (gives tt s) (fails (Order t.place))

abbrev pub kind_by : Keyword → Option RuleKind
kind_by Ban = Some kind.Ban
kind_by Need = Some kind.Need
kind_by Then = None
kind_by At = None
kind_by Use = None
kind_by From = None
kind_by To = None
kind_by Not = None
kind_by And = None
kind_by Or = None
kind_by Seq = None

-- the kind of the rule that begins at a token
abbrev pub a_kind : Lexeme → St → Out RuleKind
a_kind t = wanted t.place (keyword_of t.word) (λ k. wanted t.place (kind_by k) gives)

-- a rule after its first word; rs are those before it
abbrev pub a_rule : List Statement → RuleKind → St → Out Statement
a_rule rs k = fresh rs >>= λ n. whole >>= λ f. a_then >>= λ _. whole >>= λ g. a_stop >>= λ _. gives (record { kind = k; number = n; condition = f; consequence = g })

-- after the rules rs: the end of the text, or what else follows
abbrev pub ended_or : List Statement → (Lexeme → St → Out (List Statement)) → Lexeme → St → Out (List Statement)
ended_or rs on t s = cond (is_end t.word) (gives rs s) (on t s)

-- the rules of a text, where rs were read and k more may come
unfoldable pub rules_from : ℕ → List Statement → St → Out (List Statement)
rules_from zero rs s = bind (token s) (ended_or rs (λ t. a_kind t >>= λ _ _. fails (Limit t.place)))
rules_from (suc k) rs s = bind (token s) (ended_or rs (λ t. a_kind t >>= λ kind. a_rule rs kind >>= λ r. rules_from k (rs ++ r ∷ [])))

pub data Verdict : Type 0 where
  accepts : List Statement → Verdict
  refuses : Fault → Verdict

abbrev pub judged : Out (List Statement) → Verdict
judged (gives rs s) = accepts rs
judged (fails f) = refuses f

-- what a text states, or why it is refused
abbrev pub verdict : List ℕ → Verdict
verdict text = cond (nat_lt text_limit (length text)) (refuses (Limit text_limit)) (judged (rules_from rules_limit [] (start text)))
