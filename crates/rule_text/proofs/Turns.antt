-- One turn of the loop over rules.
use Rattle.std.proofs.Common.{◌≡◌, ℕ, suc, ◌+◌, ◌-◌, ◌<◌, ◌≤◌, Bool, true, false, cond, ltb, ◌≢◌, List, [], ◌∷◌, ◌++◌, Option, Some, None, length, refl, ap, sym, ◌∙◌, ⊎_elim, arith}
use Rattle.std.proofs.str.Laws.{order}
use Rattle.std.proofs.lemmas.List.{length_push}
use Rattle.std.proofs.lemmas.Bool.{cond-false, le-ltb, lt-ltb}
use Rattle.rule_tokens.specs.Lex.{Lexeme, is_end}
use Rattle.rule_tokens.specs.declared.fault.Fault.{Fault}
use Rattle.rule_tokens.specs.declared.fault.Fault.TheVariants as fault
use Rattle.rule_exprs.specs.Grammar.{St, Out, start, gives, bind, token}
use Rattle.rule_exprs.specs.Follow.{Fails}
use Rattle.rule_exprs.proofs.Fails.{bind_bind, bind_same}
use Rattle.rule_text.specs.declared.rule.RuleKind.{RuleKind}
use Rattle.rule_text.specs.Limits.{text_limit, rules_limit}
use Rattle.rule_text.specs.Statements.{Statement}
use Rattle.rule_text.specs.Books.{a_kind, a_rule, ended_or, rules_from, accepts, refuses, judged, verdict}
use Rattle.rule_text.specs.Following.{next_or_end}

-- the rules from here on, where the rules rs were read and o came, and k more may come
abbrev pub after : List Statement → ℕ → Option Statement → St → Out (List Statement)
after rs k None s = gives rs s
after rs k (Some r) s = rules_from k (rs ++ r ∷ []) s

-- what follows the first token of a turn, whether it is the end or not
apart : (rs : List Statement) (k : ℕ) (t : Lexeme) (s : St) (c : Bool) (o : Out (List Statement)) (q : Out (Option Statement)) → o ≡ bind q (after rs k) → cond c (gives rs s) o ≡ bind (cond c (gives None s) q) (after rs k)
apart rs k t s true o q e = refl
apart rs k t s false o q e = e

pub turn : (rs : List Statement) (s : St) → length rs ≤ rules_limit → rules_from (rules_limit - length rs) rs s ≡ bind (next_or_end rs s) (after rs (rules_limit - (length rs + 1)))
unfolding rules_from
turn rs s few = ⊎_elim more last (order (length rs) rules_limit)
  where
    by_kind : (o : Lexeme → RuleKind → St → Out (List Statement)) (q : Lexeme → RuleKind → St → Out (Option Statement)) → ((t : Lexeme) (k : RuleKind) (z : St) → o t k z ≡ bind (q t k z) (after rs (rules_limit - (length rs + 1))))
        → bind (token s) (ended_or rs (λ t z. bind (a_kind t z) (o t))) ≡ bind (bind (token s) (λ t z. cond (is_end t.word) (gives None z) (bind (a_kind t z) (q t)))) (after rs (rules_limit - (length rs + 1)))
    by_kind o q same = bind_same (token s) (λ t z. apart rs _ t z (is_end t.word) _ _ (bind_same (a_kind t z) (same t) ∙ sym (bind_bind (a_kind t z) _ _))) ∙ sym (bind_bind (token s) _ _)

    more : length rs < rules_limit → rules_from (rules_limit - length rs) rs s ≡ bind (next_or_end rs s) (after rs (rules_limit - (length rs + 1)))
    more h =
        let k : rules_limit - length rs ≡ suc (rules_limit - (length rs + 1)) = omega arith in
        let room : ltb (length rs) rules_limit ≡ true = lt-ltb (length rs) rules_limit h in
        rw k (by_kind _ _ (λ t j y. rw room (sym (bind_bind (a_rule rs j y) _ _))))

    last : rules_limit ≤ length rs → rules_from (rules_limit - length rs) rs s ≡ bind (next_or_end rs s) (after rs (rules_limit - (length rs + 1)))
    last h =
        let k : rules_limit - length rs ≡ 0 = omega arith in
        let full : ltb (length rs) rules_limit ≡ false = le-ltb (length rs) rules_limit h in
        rw k (by_kind _ _ (λ t j y. rw full refl))

-- a text that is short enough, of which the rules rs were read
module _ (text : List ℕ) (h : length text ≤ text_limit) (rs : List Statement) (s : St) (few : length rs ≤ rules_limit) (so : rules_from (rules_limit - length rs) rs s ≡ rules_from rules_limit [] (start text)) where
  judged_by : verdict text ≡ judged (bind (next_or_end rs s) (after rs (rules_limit - (length rs + 1))))
  judged_by = cond-false (ltb text_limit (length text)) _ _ (le-ltb text_limit (length text) h) ∙ ap judged (sym so ∙ turn rs s few)

  pub ended : (z : St) → next_or_end rs s ≡ gives None z → verdict text ≡ accepts rs
  ended z e = judged_by ∙ rw e

  pub one_came : (r : Statement) (z : St) → next_or_end rs s ≡ gives (Some r) z → rules_from (rules_limit - length (rs ++ r ∷ [])) (rs ++ r ∷ []) z ≡ rules_from rules_limit [] (start text)
  one_came r z e = rw length_push (sym (turn rs s few ∙ rw e) ∙ so)

  pub refused : (f : Fault) → Fails f (next_or_end rs s) → f ≢ fault.Memory → verdict text ≡ refuses f
  refused (fault.Token p) e m = judged_by ∙ rw e
  refused (fault.Order p) e m = judged_by ∙ rw e
  refused (fault.Value p) e m = judged_by ∙ rw e
  refused (fault.Limit p) e m = judged_by ∙ rw e
  refused fault.Memory e m = absurd (m refl)
