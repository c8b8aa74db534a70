-- Which texts spell which books: the words of the text are those of the book, which keeps within the limits.
use Rattle.std.specs.Prelude.{◌≡◌, ℕ, ◌+◌, ◌≤◌, cond, ◌≢◌, List, [], ◌∷◌, ◌++◌, map, length, Some, None, sum_by, Option}
use Rattle.std.specs.List.{flat_map, AllByRecursion}
use Rattle.rule_tokens.specs.Lex.{Word, name, numeral, stops, is_end, Tok, good, wrong, tokens}
use Rattle.rule_exprs.specs.declared.keyword.Keyword.TheVariants as keyword
use Rattle.rule_exprs.specs.Keywords.{spelling}
use Rattle.rule_exprs.specs.Limits.{expressions_limit, terms_limit, depth_limit}
use Rattle.rule_exprs.specs.Formulas.{print, size, marks, depth, Fine}
use Rattle.rule_text.specs.declared.rule.RuleKind.{RuleKind}
use Rattle.rule_text.specs.declared.rule.RuleKind.TheVariants as kind
use Rattle.rule_text.specs.Limits.{text_limit, rules_limit, number_limit}
use Rattle.rule_text.specs.Statements.{Statement}

-- the words of a rule, and of a book
abbrev pub print_kind : RuleKind → Word
print_kind kind.Ban = name (spelling keyword.Ban)
print_kind kind.Need = name (spelling keyword.Need)

abbrev pub print_rule : Statement → List Word
print_rule r = print_kind r.kind ∷ (numeral r.number ∷ (print r.condition ++ name (spelling keyword.Then) ∷ (print r.consequence ++ stops ∷ [])))

abbrev pub print_book : List Statement → List Word
print_book rs = flat_map print_rule rs

-- the words of the tokens up to the end of the text, if no token is wrong
abbrev pub followed : Word → Option (List Word) → Option (List Word)
followed w (Some ws) = Some (w ∷ ws)
followed w None = None

abbrev pub words : List Tok → Option (List Word)
words [] = None
words (good w p ∷ ts) = cond (is_end w) (Some []) (followed w (words ts))
words (wrong p ∷ ts) = None

-- one rule keeps within the limits
pub record Allowed (r : Statement) : Type 0 where
  pub low : 1 ≤ r.number
  pub high : r.number ≤ number_limit
  pub condition : Fine r.condition
  pub consequence : Fine r.consequence
  pub condition_depth : depth r.condition ≤ depth_limit
  pub consequence_depth : depth r.consequence ≤ depth_limit

-- no number stands twice
abbrev pub Apart : List ℕ → Type 0
Apart [] = Unit {0}
Apart (n ∷ ns) = AllByRecursion (λ m. m ≢ n) ns × Apart ns

-- a book keeps within the limits
pub record Within (rs : List Statement) : Type 0 where
  pub rules : length rs ≤ rules_limit
  pub allowed : AllByRecursion Allowed rs
  pub apart : Apart (map (λ r. r.number) rs)
  pub expressions : sum_by (λ r. size r.condition + size r.consequence) rs ≤ expressions_limit
  pub terms : sum_by (λ r. marks r.condition + marks r.consequence) rs ≤ terms_limit

-- the text is short enough, and its tokens, all good, are the words of a book within the limits
pub record Spells (text : List ℕ) (rs : List Statement) : Type 0 where
  pub short : length text ≤ text_limit
  pub spelled : words (tokens 0 0 text) ≡ Some (print_book rs)
  pub within : Within rs
