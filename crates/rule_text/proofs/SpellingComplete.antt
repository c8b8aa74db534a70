-- A book that a text spells is accepted, so a text spells at most one.
use Rattle.std.proofs.Common.{◌≡◌, ℕ, zero, suc, ◌+◌, ◌≤◌, false, eqb, ◌≢◌, List, [], ◌∷◌, ◌++◌, map, length, Some, sum_by, sym, refl, ap, ◌∙◌, arith}
use Rattle.std.specs.List.{AllByRecursion}
use Rattle.std.proofs.lemmas.List.{append-nil, append_assoc, map-append}
use Rattle.std.proofs.lemmas.List.Sums.{sum_by-cons, sum_by-append, sum_by_push}
use Rattle.std.proofs.lemmas.Bool.{le-leb, ne_eqb, le-ltb, or_from}
use Rattle.rule_tokens.specs.Lex.{name, numeral, stops, Tok, tokens}
use Rattle.rule_exprs.specs.Limits.{expressions_limit, terms_limit}
use Rattle.rule_exprs.specs.Keywords.{spelling}
use Rattle.rule_exprs.specs.Formulas.{print, size, marks}
use Rattle.rule_exprs.specs.declared.keyword.Keyword.TheVariants.{Then}
use Rattle.rule_exprs.specs.Grammar.{St, gives}
use Rattle.rule_exprs.proofs.SpellingTaken.{Took, took_split, at, lexeme}
use Rattle.rule_exprs.proofs.SpellingSteps.{bound, same_given, first_took}
use Rattle.rule_exprs.proofs.SpellingComplete.{whole_taken}
use Rattle.rule_text.specs.declared.rule.RuleKind.{RuleKind}
use Rattle.rule_text.specs.declared.rule.RuleKind.TheVariants as kind
use Rattle.rule_text.specs.Limits.{text_limit, rules_limit, number_limit}
use Rattle.rule_text.specs.Statements.{Statement}
use Rattle.rule_text.specs.Books.{taken, fresh, a_then, a_stop, a_kind, a_rule, rules_from, accepts, judged, verdict}
use Rattle.rule_text.specs.Spelling.{print_kind, print_rule, print_book, words, Allowed, Apart, Within, Spells}
use Rattle.rule_text.proofs.SpellingWords.{took_words, words_none}
use Rattle.rule_text.proofs.SpellingRules.{rule_size, rule_marks, print_rest, kind_no_end}

fresh_taken : (rs : List Statement) (n : ℕ) (ts us : List Tok) (e m : ℕ) → 1 ≤ n → n ≤ number_limit → taken rs n ≡ false → Took (numeral n ∷ []) ts us → fresh rs (at ts e m) ≡ gives n (at us e m)
fresh_taken rs n ts us e m low high new h =
    let f = first_took (numeral n) [] ts us h in
    rw (f.2, le-leb 1 n low, le-leb n number_limit high, new, f.3)

then_taken : (ts us : List Tok) (e m : ℕ) → Took (name (spelling Then) ∷ []) ts us → a_then (at ts e m) ≡ gives tt (at us e m)
then_taken ts us e m h =
    let f = first_took (name (spelling Then)) [] ts us h in
    rw (f.2, f.3)

stop_taken : (ts us : List Tok) (e m : ℕ) → Took (stops ∷ []) ts us → a_stop (at ts e m) ≡ gives tt (at us e m)
stop_taken ts us e m h =
    let f = first_took stops [] ts us h in
    rw (f.2, f.3)

a_kind_taken : (k : RuleKind) (p : ℕ) (s : St) → a_kind (lexeme (print_kind k) p) s ≡ gives k s
a_kind_taken kind.Ban p s = refl
a_kind_taken kind.Need p s = refl

-- a rule's words after its first, in their parts
parts_taken : (rs : List Statement) (r : Statement) (ts a b c d us : List Tok) (e m : ℕ)
    → Took (numeral r.number ∷ []) ts a → Took (print r.condition) a b → Took (name (spelling Then) ∷ []) b c → Took (print r.consequence) c d → Took (stops ∷ []) d us
    → Allowed r → taken rs r.number ≡ false → e + rule_size r ≤ expressions_limit → m + rule_marks r ≤ terms_limit
    → a_rule rs r.kind (at ts e m) ≡ gives r (at us (e + rule_size r) (m + rule_marks r))
parts_taken rs r ts a b c d us e m g h i j k ok new x y =
    bound _ (fresh_taken rs r.number ts a e m ok.low ok.high new g)
    (bound _ (whole_taken r.condition a b e m (ok.condition, ok.condition_depth) h (omega arith) (omega arith))
    (bound _ (then_taken b c (e + size r.condition) (m + marks r.condition) i)
    (bound _ (whole_taken r.consequence c d (e + size r.condition) (m + marks r.condition) (ok.consequence, ok.consequence_depth) j (omega arith) (omega arith))
    (bound _ (stop_taken d us (e + size r.condition + size r.consequence) (m + marks r.condition + marks r.consequence) k) (same_given (omega arith) (omega arith))))))

a_rule_taken : (rs : List Statement) (r : Statement) (ts us : List Tok) (e m : ℕ) → Took (print_rest r) ts us → Allowed r → taken rs r.number ≡ false → e + rule_size r ≤ expressions_limit → m + rule_marks r ≤ terms_limit
    → a_rule rs r.kind (at ts e m) ≡ gives r (at us (e + rule_size r) (m + rule_marks r))
a_rule_taken rs r ts us e m h ok new x y =
    let a = took_split (numeral r.number ∷ []) (print r.condition ++ name (spelling Then) ∷ (print r.consequence ++ stops ∷ [])) ts us h in
    let b = took_split (print r.condition) (name (spelling Then) ∷ (print r.consequence ++ stops ∷ [])) a.0 us a.2 in
    let c = took_split (name (spelling Then) ∷ []) (print r.consequence ++ stops ∷ []) b.0 us b.2 in
    let d = took_split (print r.consequence) (stops ∷ []) c.0 us c.2 in
    parts_taken rs r ts a.0 b.0 c.0 d.0 us e m a.1 b.1 c.1 d.1 d.2 ok new x y

-- what holds of every element holds of one in the middle
all_middle : {X : Type 0} (P : X → Type 0) (xs : List X) (x : X) (ys : List X) → AllByRecursion P (xs ++ x ∷ ys) → P x
all_middle P [] x ys h = h.0
all_middle P (y ∷ xs) x ys h = all_middle P xs x ys h.1

all_number : (P : ℕ → Type 0) (rs : List Statement) (r : Statement) (ss : List Statement) → AllByRecursion P (map (λ x. x.number) (rs ++ r ∷ ss)) → P r.number
all_number P rs r ss h = all_middle P (map (λ x. x.number) rs) r.number (map (λ x. x.number) ss) (rw map-append at h)

apart_new : (rs : List Statement) (r : Statement) (ss : List Statement) → Apart (map (λ x. x.number) (rs ++ r ∷ ss)) → taken rs r.number ≡ false
apart_new [] r ss h = refl
apart_new (q ∷ rs) r ss h =
    or_from (eqb q.number r.number) (taken rs r.number)
    (ne_eqb q.number r.number (λ e. all_number (λ m. m ≢ q.number) rs r ss h.0 (sym e)))
    (apart_new rs r ss h.1)

-- nothing is left but the end
end_taken : (k : ℕ) (rs : List Statement) (ts : List Tok) (e m : ℕ) → words ts ≡ Some [] → (z : St) × (rules_from k rs (at ts e m) ≡ gives (rs ++ []) z)
unfolding rules_from
end_taken zero rs ts e m h = let f = words_none ts h in (at ts e m, rw (f.3, f.4, append-nil))
end_taken (suc k) rs ts e m h = let f = words_none ts h in (at ts e m, rw (f.3, f.4, append-nil))

first_rule : (k : ℕ) (rs ss : List Statement) (r : Statement) (ts us : List Tok) (e m : ℕ) (z : St) → Took (print_rule r) ts us → Allowed r → taken rs r.number ≡ false
    → e + rule_size r ≤ expressions_limit → m + rule_marks r ≤ terms_limit
    → rules_from k (rs ++ r ∷ []) (at us (e + rule_size r) (m + rule_marks r)) ≡ gives ((rs ++ r ∷ []) ++ ss) z
    → rules_from (suc k) rs (at ts e m) ≡ gives (rs ++ r ∷ ss) z
unfolding rules_from
first_rule k rs ss r ts us e m z h ok new x y rest =
    let f = first_took (print_kind r.kind) (print_rest r) ts us h in
    rw (f.2, kind_no_end r.kind) (bound _ (a_kind_taken r.kind f.0 (at f.1 e m)) (bound _ (a_rule_taken rs r f.1 us e m f.3 ok new x y) (rest ∙ ap (λ l. gives l z) (append_assoc rs (r ∷ []) ss))))

-- the rules rs were read, and the words of ss are left
rules_taken : (ss : List Statement) (k : ℕ) (rs : List Statement) (ts : List Tok) (e m : ℕ) → words ts ≡ Some (print_book ss) → Within (rs ++ ss) → length ss ≤ k → e ≡ sum_by rule_size rs → m ≡ sum_by rule_marks rs
    → (z : St) × (rules_from k rs (at ts e m) ≡ gives (rs ++ ss) z)
rules_taken [] k rs ts e m h within few i j = end_taken k rs ts e m h
rules_taken (r ∷ ss) zero rs ts e m h within few i j = absurd (omega arith)
rules_taken (r ∷ ss) (suc k) rs ts e m h within few i j =
    let a = sum_by-append rule_size rs (r ∷ ss) in
    let b = sum_by-cons rule_size r ss in
    let c = sum_by-append rule_marks rs (r ∷ ss) in
    let d = sum_by-cons rule_marks r ss in
    let parts = took_words (print_rule r) (print_book ss) ts h in
    let later : Within ((rs ++ r ∷ []) ++ ss) = rw append_assoc within in
    let rest = rules_taken ss k (rs ++ r ∷ []) parts.0 (e + rule_size r) (m + rule_marks r) parts.2 later (omega arith) (omega (arith, sum_by_push rule_size rs r)) (omega (arith, sum_by_push rule_marks rs r)) in
    (rest.0, first_rule k rs ss r ts parts.0 e m rest.0 parts.1 (all_middle Allowed rs r ss within.allowed) (apart_new rs r ss within.apart) (omega (arith, within.expressions)) (omega (arith, within.terms)) rest.1)

pub accepted : (text : List ℕ) (rs : List Statement) → Spells text rs → verdict text ≡ accepts rs
accepted text rs h =
    rw (le-ltb text_limit (length text) h.short) (ap judged (rules_taken rs rules_limit [] (tokens 0 0 text) 0 0 h.spelled h.within h.within.rules refl refl).1)
