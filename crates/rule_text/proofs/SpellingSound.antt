-- A book that is accepted is spelled by its text.
use Rattle.std.proofs.Common.{◌≡◌, ℕ, zero, suc, ◌+◌, ◌≤◌, Bool, true, false, cond, eqb, ltb, ◌≢◌, List, [], ◌∷◌, ◌++◌, map, length, Some, sum_by, sym, refl, ap, ◌∙◌, subst, arith}
use Rattle.std.specs.List.{AllByRecursion}
use Rattle.std.proofs.ByRecursion.{All-push}
use Rattle.std.proofs.lemmas.List.{append-nil, flat_map_more, length_push, map_push}
use Rattle.std.proofs.lemmas.List.Sums.{sum_by_push}
use Rattle.std.proofs.lemmas.Bool.{eqb-false, ltb-false, or_parts}
use Rattle.rule_tokens.specs.Lex.{Lexeme, is_end, Tok, tokens}
use Rattle.rule_tokens.specs.declared.fault.Fault.TheVariants.{Limit}
use Rattle.rule_exprs.specs.Limits.{expressions_limit, terms_limit}
use Rattle.rule_exprs.specs.Grammar.{St, start, Out, gives, fails, token}
use Rattle.rule_exprs.proofs.SpellingTaken.{Took, took_append, before, Moved, moved_after}
use Rattle.rule_exprs.proofs.SpellingGiven.{Gives, given, failed, got, and_then, choice, token_given, both_given}
use Rattle.rule_text.specs.declared.rule.RuleKind.{RuleKind}
use Rattle.rule_text.specs.Limits.{text_limit, rules_limit}
use Rattle.rule_text.specs.Statements.{Statement}
use Rattle.rule_text.specs.Books.{taken, rules_from, accepts, refuses, judged, verdict}
use Rattle.rule_text.specs.Spelling.{print_kind, print_rule, print_book, words, Allowed, Apart, Within, Spells}
use Rattle.rule_text.proofs.SpellingWords.{words_took, Ended, ended_tokens, took_ended, end_given}
use Rattle.rule_text.proofs.SpellingRules.{rule_size, rule_marks, print_rest, kind_no_end, a_kind_given, a_rule_given}

-- the rules rs were read from the tokens ts up to s, and k more may come
record SoFar (ts : List Tok) (k : ℕ) (rs : List Statement) (s : St) : Type 0 where
  took : Took (print_book rs) ts s.toks
  count : length rs + k ≤ rules_limit
  allowed : AllByRecursion Allowed rs
  apart : Apart (map (λ r. r.number) rs)
  expressions : s.expressions ≡ sum_by rule_size rs
  terms : s.terms ≡ sum_by rule_marks rs
  expressions_kept : s.expressions ≤ expressions_limit
  terms_kept : s.terms ≤ terms_limit

apart_push : (ns : List ℕ) (n : ℕ) → Apart ns → AllByRecursion (λ m. n ≢ m) ns → Apart (ns ++ n ∷ [])
apart_push [] n h k = (tt, tt)
apart_push (m ∷ ns) n h k = (All-push (λ x. x ≢ m) ns n h.0 k.0, apart_push ns n h.1 k.1)

untaken : (rs : List Statement) (n : ℕ) → taken rs n ≡ false → AllByRecursion (λ m. n ≢ m) (map (λ r. r.number) rs)
untaken [] n e = tt
untaken (r ∷ rs) n e =
    let p = or_parts (eqb r.number n) (taken rs n) e in
    (λ q. eqb-false r.number n p.0 (sym q), untaken rs n p.1)

-- the book rs is what the tokens ts spell, and keeps within the limits
abbrev Spelled : List Tok → List Statement → Type 0
Spelled ts rs = (words ts ≡ Some (print_book rs)) × Within rs

at_end : (ts : List Tok) (k : ℕ) (rs : List Statement) (s : St) → SoFar ts k rs s → words s.toks ≡ Some [] → Spelled ts rs
at_end ts k rs s h e = (
  words_took (print_book rs) [] ts s.toks h.took e ∙ ap Some (append-nil (print_book rs)),
  record {
    rules = omega (arith, h.count);
    allowed = h.allowed;
    apart = h.apart;
    expressions = omega (arith, h.expressions, h.expressions_kept);
    terms = omega (arith, h.terms, h.terms_kept);
  },
)

one_more : (ts : List Tok) (k : ℕ) (rs : List Statement) (s z : St) (r : Statement) → SoFar ts (suc k) rs s → Moved s (print_rule r) (rule_size r) (rule_marks r) z → Allowed r → taken rs r.number ≡ false → SoFar ts k (rs ++ r ∷ []) z
one_more ts k rs s z r h m allowed new = record {
  took = rw (← flat_map_more print_rule [] rs r) (took_append (print_book rs) (print_rule r) ts s.toks z.toks h.took m.took);
  count = omega (arith, h.count, length_push rs r);
  allowed = All-push Allowed rs r h.allowed allowed;
  apart = rw (map_push (λ (x : Statement). x.number) rs r) (apart_push (map (λ x. x.number) rs) r.number h.apart (untaken rs r.number new));
  expressions = omega (arith, h.expressions, m.expressions, sum_by_push rule_size rs r);
  terms = omega (arith, h.terms, m.terms, sum_by_push rule_marks rs r);
  expressions_kept = m.expressions_kept h.expressions_kept;
  terms_kept = m.terms_kept h.terms_kept;
}

-- with the rule's first word
whole_rule : (s y z : St) (t : Lexeme) (k : RuleKind) (r : Statement) → (is_end t.word ≡ false → s ≡ before t y) → t.word ≡ print_kind k → r.kind ≡ k → Moved y (print_rest r) (rule_size r) (rule_marks r) z → Moved s (print_rule r) (rule_size r) (rule_marks r) z
whole_rule s y z t k r back e q m =
    let w : t.word ≡ print_kind r.kind = e ∙ ap print_kind (sym q) in
    let here : is_end t.word ≡ false = ap is_end w ∙ kind_no_end r.kind in
    rw (back here, ← w) (moved_after t here m)

front_given : (ts : List Tok) → Ended ts → (k : ℕ) (rs : List Statement) (s : St) → SoFar ts k rs s
    → Gives (λ t z. (is_end t.word ≡ false → s ≡ before t z) × (is_end t.word ≡ true → words s.toks ≡ Some [])) (token s)
front_given ts ended k rs s h = both_given (token_given s) (end_given s.toks s.expressions s.terms (took_ended (print_book rs) ts s.toks h.took ended))

rules_given : (ts : List Tok) → Ended ts → (k : ℕ) (rs : List Statement) (s : St) → SoFar ts k rs s → Gives (λ ss z. Spelled ts ss) (rules_from k rs s)
unfolding rules_from
rules_given ts ended zero rs s h =
    and_then (front_given ts ended zero rs s h) (λ t z f.
    choice (is_end t.word) (λ e. given (at_end ts zero rs s h (f.1 e))) (λ e. and_then (a_kind_given t z) (λ k y g. failed)))
rules_given ts ended (suc k) rs s h =
    and_then (front_given ts ended (suc k) rs s h) (λ t y f.
    choice (is_end t.word) (λ e. given (at_end ts (suc k) rs s h (f.1 e))) (λ e.
    and_then (a_kind_given t y) (λ j u g.
    and_then (a_rule_given rs j u) (λ r z i.
    let back : is_end t.word ≡ false → s ≡ before t u = λ n. f.0 n ∙ ap (before t) (sym g.1) in
    rules_given ts ended k (rs ++ r ∷ []) z (one_more ts k rs s z r h (whole_rule s u z t j r back g.0 i.3 i.0) i.1 i.2)))))

from_start : (text : List ℕ) → SoFar (tokens 0 0 text) rules_limit [] (start text)
from_start text = record {
  took = refl;
  count = omega arith;
  allowed = tt;
  apart = tt;
  expressions = refl;
  terms = refl;
  expressions_kept = omega arith;
  terms_kept = omega arith;
}

judged_given : {P : List Statement → Type 0} (o : Out (List Statement)) (rs : List Statement) → Gives (λ ss z. P ss) o → judged o ≡ accepts rs → P rs
judged_given {P} (gives ss z) rs h e = let same : ss ≡ rs = cc in subst P same (got h)
judged_given (fails f) rs h e = absurd (cc)

pub spells : (text : List ℕ) (rs : List Statement) → verdict text ≡ accepts rs → Spells text rs
spells text rs e = by (ltb text_limit (length text)) refl e
  where
    by : (b : Bool) → ltb text_limit (length text) ≡ b → cond b (refuses (Limit text_limit)) (judged (rules_from rules_limit [] (start text))) ≡ accepts rs → Spells text rs
    by true l h = absurd (cc)
    by false l h =
        let so = judged_given {P = Spelled (tokens 0 0 text)} (rules_from rules_limit [] (start text)) rs (rules_given (tokens 0 0 text) (ended_tokens 0 0 text) rules_limit [] (start text) (from_start text)) h in
        record { short = ltb-false text_limit (length text) l; spelled = so.0; within = so.1 }
