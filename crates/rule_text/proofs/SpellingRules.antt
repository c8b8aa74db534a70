-- A rule that is given was spelled.
use Rattle.std.proofs.Common.{◌≡◌, ℕ, ◌+◌, ◌≤◌, true, false, not, ◌&&◌, leb, List, [], ◌∷◌, ◌++◌, Some, refl, ap, ◌∙◌, arith}
use Rattle.std.proofs.lemmas.Bool.{leb-true, not-true, and_parts}
use Rattle.rule_tokens.specs.Lex.{Word, name, numeral, opens, closes, stops, ends, Lexeme, is_end}
use Rattle.rule_exprs.specs.Keywords.{spelling}
use Rattle.rule_exprs.specs.Formulas.{print, size, marks}
use Rattle.rule_exprs.specs.declared.keyword.Keyword.{Keyword}
use Rattle.rule_exprs.specs.declared.keyword.Keyword.TheVariants.{Ban, Need, Then, At, Use, From, To, Not, And, Or, Seq}
use Rattle.rule_exprs.specs.Grammar.{St, gives, keyword_of, number_of}
use Rattle.rule_exprs.proofs.SpellingTaken.{Moved, moved_on, moved_so}
use Rattle.rule_exprs.proofs.SpellingKeywords.{keyword_word, number_word}
use Rattle.rule_exprs.proofs.SpellingGiven.{Gives, given, failed, and_then, choice, on_wanted, token_given}
use Rattle.rule_exprs.proofs.SpellingTerms.{moved_one}
use Rattle.rule_exprs.proofs.SpellingSound.{whole_given}
use Rattle.rule_text.specs.declared.rule.RuleKind.{RuleKind}
use Rattle.rule_text.specs.declared.rule.RuleKind.TheVariants as kind
use Rattle.rule_text.specs.Limits.{number_limit}
use Rattle.rule_text.specs.Statements.{Statement}
use Rattle.rule_text.specs.Books.{taken, fresh, is_then, a_then, is_stop, a_stop, kind_by, a_kind, a_rule}
use Rattle.rule_text.specs.Spelling.{print_kind, Allowed}

-- how many expressions and marked terms a rule has
abbrev pub rule_size : Statement → ℕ
rule_size r = size r.condition + size r.consequence

abbrev pub rule_marks : Statement → ℕ
rule_marks r = marks r.condition + marks r.consequence

-- the words of a rule after its first
abbrev pub print_rest : Statement → List Word
print_rest r = numeral r.number ∷ (print r.condition ++ name (spelling Then) ∷ (print r.consequence ++ stops ∷ []))

then_keyword : (k : Keyword) → is_then k ≡ true → k ≡ Then
then_keyword Then e = refl
then_keyword Ban e = cc
then_keyword Need e = cc
then_keyword At e = cc
then_keyword Use e = cc
then_keyword From e = cc
then_keyword To e = cc
then_keyword Not e = cc
then_keyword And e = cc
then_keyword Or e = cc
then_keyword Seq e = cc

stop_word : (w : Word) → is_stop w ≡ true → w ≡ stops
stop_word (name v) e = cc
stop_word (numeral n) e = cc
stop_word opens e = cc
stop_word closes e = cc
stop_word stops e = refl
stop_word ends e = cc

kind_keyword : (j : Keyword) (k : RuleKind) → kind_by j ≡ Some k → name (spelling j) ≡ print_kind k
kind_keyword Ban k e = let same : kind.Ban ≡ k = cc in ap print_kind same
kind_keyword Need k e = let same : kind.Need ≡ k = cc in ap print_kind same
kind_keyword Then k e = cc
kind_keyword At k e = cc
kind_keyword Use k e = cc
kind_keyword From k e = cc
kind_keyword To k e = cc
kind_keyword Not k e = cc
kind_keyword And k e = cc
kind_keyword Or k e = cc
kind_keyword Seq k e = cc

pub a_kind_given : (t : Lexeme) (s : St) → Gives (λ k z. (t.word ≡ print_kind k) × (z ≡ s)) (a_kind t s)
a_kind_given t s =
    on_wanted t.place (keyword_of t.word) _ s (λ j e.
    on_wanted t.place (kind_by j) gives s (λ k f. given (keyword_word t.word j e ∙ kind_keyword j k f, refl)))

-- a number in range that no earlier rule has
abbrev pub New : List Statement → ℕ → Type 0
New rs n = (1 ≤ n) × (n ≤ number_limit) × (taken rs n ≡ false)

new_number : (rs : List Statement) (n : ℕ) → (leb 1 n && (leb n number_limit && not (taken rs n))) ≡ true → New rs n
new_number rs n e =
    let a = and_parts (leb 1 n) (leb n number_limit && not (taken rs n)) e in
    let b = and_parts (leb n number_limit) (not (taken rs n)) a.1 in
    (leb-true 1 n a.0, leb-true n number_limit b.0, not-true (taken rs n) b.1)

fresh_given : (rs : List Statement) (s : St) → Gives (λ n z. New rs n × Moved s (numeral n ∷ []) 0 0 z) (fresh rs s)
fresh_given rs s =
    and_then (token_given s) (λ t z back.
    on_wanted t.place (number_of t.word) _ z (λ n e.
    choice (leb 1 n && (leb n number_limit && not (taken rs n))) (λ l. given (new_number rs n l, moved_one t (numeral n) back (number_word t.word n e) refl)) (λ l. failed)))

then_given : (s : St) → Gives (λ u z. Moved s (name (spelling Then) ∷ []) 0 0 z) (a_then s)
then_given s =
    and_then (token_given s) (λ t z back.
    on_wanted t.place (keyword_of t.word) _ z (λ k e.
    choice (is_then k) (λ l. given (moved_one t (name (spelling Then)) back (keyword_word t.word k e ∙ ap (λ j. name (spelling j)) (then_keyword k l)) refl)) (λ l. failed)))

stop_given : (s : St) → Gives (λ u z. Moved s (stops ∷ []) 0 0 z) (a_stop s)
stop_given s =
    and_then (token_given s) (λ t z back.
    choice (is_stop t.word) (λ e. given (moved_one t stops back (stop_word t.word e) refl)) (λ e. failed))

pub a_rule_given : (rs : List Statement) (k : RuleKind) (s : St)
    → Gives (λ r z. Moved s (print_rest r) (rule_size r) (rule_marks r) z × Allowed r × (taken rs r.number ≡ false) × (r.kind ≡ k)) (a_rule rs k s)
a_rule_given rs k s =
    and_then (fresh_given rs s) (λ n a h.
    and_then (whole_given a) (λ f b i.
    and_then (then_given b) (λ u c j.
    and_then (whole_given c) (λ g d l.
    and_then (stop_given d) (λ v z m. given (
      moved_so (omega arith) (omega arith) (moved_on h.1 (moved_on i.0 (moved_on j (moved_on l.0 m)))),
      record { low = h.0.0; high = h.0.1; condition = i.1.0; consequence = l.1.0; condition_depth = i.1.1; consequence_depth = l.1.1 },
      h.0.2,
      refl,
    ))))))

pub kind_no_end : (k : RuleKind) → is_end (print_kind k) ≡ false
kind_no_end kind.Ban = refl
kind_no_end kind.Need = refl
