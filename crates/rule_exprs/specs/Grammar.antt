-- How expressions are read from tokens; the first token at which something is wrong decides.
use Rattle.std.specs.Prelude.{ℕ, zero, suc, ◌+◌, Bool, true, false, cond, ◌&&◌, List, [], ◌∷◌, Some, None, Option, ◌==◌, nat_le, nat_lt}
use Rattle.streets.specs.Limits.{points_limit, numbers_end}
use Rattle.rule_tokens.specs.Lex.{Word, name, numeral, opens, closes, stops, ends, Lexeme, Tok, good, wrong, head, shift, tokens}
use Rattle.rule_tokens.specs.declared.fault.Fault.{Fault}
use Rattle.rule_tokens.specs.declared.fault.Fault.TheVariants.{Token, Order, Value, Limit}
use Rattle.rule_exprs.specs.Limits.{expressions_limit, terms_limit, depth_limit, members_least, members_limit}
use Rattle.rule_exprs.specs.Keywords.{meant}
use Rattle.rule_exprs.specs.declared.keyword.Keyword.{Keyword}
use Rattle.rule_exprs.specs.declared.keyword.Keyword.TheVariants.{Ban, Need, Then, At, Use, From, To, Not, And, Or, Seq}
use Rattle.rule_exprs.specs.declared.expr.Place.{Place}
use Rattle.rule_exprs.specs.declared.expr.Place.TheVariants as place
use Rattle.rule_exprs.specs.Formulas.{Formula, at_point, use_arc, from_point, to_point, negation, conjunction, disjunction, sequence, none, more}

infixl 20 ◌>>=◌
-- the tokens to come, and how many expressions and marked terms were read
pub record St : Type 0 where
  pub toks : List Tok
  pub expressions : ℕ
  pub terms : ℕ

-- before a text is read
abbrev pub start : List ℕ → St
start text = record { toks = tokens 0 0 text; expressions = 0; terms = 0 }

pub data Out (A : Type 0) : Type 0 where
  gives : A → St → Out A
  fails : Fault → Out A

abbrev pub bind : {A B : Type 0} → Out A → (A → St → Out B) → Out B
bind (gives a s) k = k a s
bind (fails f) k = fails f

abbrev pub ◌>>=◌ : {A B : Type 0} → (St → Out A) → (A → St → Out B) → St → Out B
◌>>=◌ m k s = bind (m s) k

abbrev pub offered : Tok → St → Out Lexeme
offered (good w p) s = gives (record { word = w; place = p }) s
offered (wrong p) s = fails (Token p)

-- the next token
abbrev pub token : St → Out Lexeme
token s = offered (head s.toks) (record { toks = shift s.toks; expressions = s.expressions; terms = s.terms })

-- what was expected of the token at p, or it is out of order
abbrev pub wanted : {A B : Type 0} → ℕ → Option A → (A → St → Out B) → St → Out B
wanted p (Some a) k s = k a s
wanted p None k s = fails (Order p)

abbrev pub keyword_of : Word → Option Keyword
keyword_of (name w) = meant w
keyword_of (numeral n) = None
keyword_of opens = None
keyword_of closes = None
keyword_of stops = None
keyword_of ends = None

abbrev pub number_of : Word → Option ℕ
number_of (name w) = None
number_of (numeral n) = Some n
number_of opens = None
number_of closes = None
number_of stops = None
number_of ends = None

abbrev pub is_open : Word → Bool
is_open (name w) = false
is_open (numeral n) = false
is_open opens = true
is_open closes = false
is_open stops = false
is_open ends = false

abbrev pub is_close : Word → Bool
is_close (name w) = false
is_close (numeral n) = false
is_close opens = false
is_close closes = true
is_close stops = false
is_close ends = false

-- a number below an end
abbrev pub a_number : ℕ → St → Out ℕ
a_number end = token >>= λ t. wanted t.place (number_of t.word) (λ n s. cond (nat_lt n end) (gives n s) (fails (Value t.place)))

-- an opening bracket, where d more may be nested
abbrev pub bracket : ℕ → St → Out (Unit {0})
bracket d = token >>= λ t s. cond (is_open t.word) (cond (d == 0) (fails (Limit t.place)) (gives tt s)) (fails (Order t.place))

abbrev pub end_bracket : St → Out (Unit {0})
end_bracket = token >>= λ t s. cond (is_close t.word) (gives tt s) (fails (Order t.place))

-- one more expression, whose keyword stands at p; a marked term is one too
abbrev pub counted : ℕ → Bool → St → Out (Unit {0})
counted p marked s =
    cond (nat_le expressions_limit s.expressions) (fails (Limit p))
    (cond (marked && nat_le terms_limit s.terms) (fails (Limit p))
    (gives tt (record { toks = s.toks; expressions = s.expressions + 1; terms = cond marked (s.terms + 1) s.terms })))

-- the number of a term, whose keyword stands at p
abbrev pub term : ℕ → Bool → ℕ → St → Out ℕ
term p marked end = counted p marked >>= λ _. a_number end

abbrev pub place_by : ℕ → Keyword → St → Out Place
place_by p At s = bind (term p true points_limit s) (λ n. gives (place.At n))
place_by p Use s = bind (term p true numbers_end s) (λ n. gives (place.Use n))
place_by p Ban s = fails (Order p)
place_by p Need s = fails (Order p)
place_by p Then s = fails (Order p)
place_by p From s = fails (Order p)
place_by p To s = fails (Order p)
place_by p Not s = fails (Order p)
place_by p And s = fails (Order p)
place_by p Or s = fails (Order p)
place_by p Seq s = fails (Order p)

-- a place of a sequence, from its first token on
abbrev pub a_place : Lexeme → St → Out Place
a_place t = wanted t.place (keyword_of t.word) (place_by t.place)

-- after n members: the closing bracket, or what else follows
abbrev pub closed_or : {B : Type 0} → B → ℕ → (Lexeme → St → Out B) → Lexeme → St → Out B
closed_or nil n on t s = cond (is_close t.word) (cond (nat_lt n members_least) (fails (Order t.place)) (gives nil s)) (on t s)

-- the members of a bracket and its end, where n members were read and at most k more may come
unfoldable pub members : {X B : Type 0} → B → (X → B → B) → (Lexeme → St → Out X) → ℕ → ℕ → St → Out B
members nil cons member zero n s = bind (token s) (closed_or nil n (λ t _. fails (Order t.place)))
members nil cons member (suc k) n s = bind (token s) (closed_or nil n (λ t. member t >>= λ x. members nil cons member k (n + 1) >>= λ xs. gives (cons x xs)))

-- the one member of a bracket and its end
abbrev pub single : (Lexeme → St → Out Formula) → St → Out Formula
single member = token >>= member >>= λ f. end_bracket >>= λ _. gives f

-- the keyword at p counted, and the opening bracket after it, where d more may be nested
abbrev pub opened : ℕ → ℕ → St → Out (Unit {0})
opened p d = counted p false >>= λ _. bracket d

-- what stands in the bracket of the keyword at p
abbrev pub group : {A : Type 0} → ℕ → ℕ → (St → Out A) → St → Out A
group p d inside = opened p d >>= λ _. inside

-- an expression, by its keyword at p, where d more brackets may be nested; `inner` reads one inside a bracket
abbrev pub form : ℕ → (Lexeme → St → Out Formula) → ℕ → Keyword → St → Out Formula
form d inner p At s = bind (term p true points_limit s) (λ n. gives (at_point n))
form d inner p Use s = bind (term p true numbers_end s) (λ n. gives (use_arc n))
form d inner p From s = bind (term p true points_limit s) (λ n. gives (from_point n))
form d inner p To s = bind (term p false points_limit s) (λ n. gives (to_point n))
form d inner p Not s = bind (group p d (single inner) s) (λ f. gives (negation f))
form d inner p And s = bind (group p d (members none more inner members_limit 0) s) (λ fs. gives (conjunction fs))
form d inner p Or s = bind (group p d (members none more inner members_limit 0) s) (λ fs. gives (disjunction fs))
form d inner p Seq s = bind (group p d (members [] ◌∷◌ a_place members_limit 0) s) (λ ps. gives (sequence ps))
form d inner p Ban s = fails (Order p)
form d inner p Need s = fails (Order p)
form d inner p Then s = fails (Order p)

-- an expression of depth at most d, from its first token on; there is none of depth 0
abbrev pub expression : ℕ → Lexeme → St → Out Formula
expression zero t s = fails (Order t.place)
expression (suc d) t s = wanted t.place (keyword_of t.word) (form d (expression d) t.place) s

-- an expression that stands in no bracket
unfoldable pub whole : St → Out Formula
whole = token >>= expression depth_limit
