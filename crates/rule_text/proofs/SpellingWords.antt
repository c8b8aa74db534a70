-- The words of a text's tokens, up to its end, are those that are taken one after another.
use Rattle.std.proofs.Common.{◌≡◌, ℕ, zero, suc, ◌+◌, Bool, true, false, cond, List, [], ◌∷◌, ◌++◌, Some, None, Option, sym, refl, ap, ◌∙◌}
use Rattle.rule_tokens.specs.Lex.{Word, is_end, Tok, good, wrong, blank, first, tail, tokens}
use Rattle.rule_exprs.specs.Grammar.{token}
use Rattle.rule_exprs.proofs.SpellingTaken.{Took, at}
use Rattle.rule_exprs.proofs.SpellingGiven.{Gives, given, failed}
use Rattle.rule_text.specs.Spelling.{followed, words}

pub words_took : (ws vs : List Word) (ts us : List Tok) → Took ws ts us → words us ≡ Some vs → words ts ≡ Some (ws ++ vs)
words_took [] vs ts us h e = rw h e
words_took (w ∷ ws) vs [] us h e = absurd h
words_took (w ∷ ws) vs (good v p ∷ ts) us h e = rw (h.0, h.1, words_took ws vs ts us h.2 e)
words_took (w ∷ ws) vs (wrong p ∷ ts) us h e = absurd h

-- what stands before the end
words_cons : (v : Word) (p : ℕ) (ts : List Tok) (w : Word) (ws : List Word) → words (good v p ∷ ts) ≡ Some (w ∷ ws) → (v ≡ w) × (is_end w ≡ false) × (words ts ≡ Some ws)
words_cons v p ts w ws e = by (is_end v) refl (words ts) refl e
  where
    by : (b : Bool) → is_end v ≡ b → (o : Option (List Word)) → words ts ≡ o → cond b (Some []) (followed v o) ≡ Some (w ∷ ws) → (v ≡ w) × (is_end w ≡ false) × (words ts ≡ Some ws)
    by true q o r h = absurd (cc)
    by false q None r h = absurd (cc)
    by false q (Some us) r h =
        let same : v ≡ w = cc in
        let rest : us ≡ ws = cc in
        (same, ap is_end (sym same) ∙ q, r ∙ ap Some rest)

pub took_words : (ws vs : List Word) (ts : List Tok) → words ts ≡ Some (ws ++ vs) → (us : List Tok) × Took ws ts us × (words us ≡ Some vs)
took_words [] vs ts e = (ts, refl, e)
took_words (w ∷ ws) vs [] e = absurd (cc)
took_words (w ∷ ws) vs (good v p ∷ ts) e =
    let f = words_cons v p ts w (ws ++ vs) e in
    let rest = took_words ws vs ts f.2 in
    (rest.0, (f.0, f.1, rest.1), rest.2)
took_words (w ∷ ws) vs (wrong p ∷ ts) e = absurd (cc)

-- no words are left only at the end
pub words_none : (ts : List Tok) → words ts ≡ Some [] → (w : Word) × (p : ℕ) × (us : List Tok) × (ts ≡ good w p ∷ us) × (is_end w ≡ true)
words_none [] e = absurd (cc)
words_none (good w p ∷ ts) e = (w, p, ts, refl, by (is_end w) (words ts) e)
  where
    by : (b : Bool) (o : Option (List Word)) → cond b (Some []) (followed w o) ≡ Some [] → b ≡ true
    by true o h = refl
    by false None h = cc
    by false (Some us) h = cc
words_none (wrong p ∷ ts) e = absurd (cc)

-- an end stands behind the good tokens in front
abbrev pub Ended : List Tok → Type 0
Ended [] = ⊥
Ended (good w p ∷ ts) = is_end w ≡ false → Ended ts
Ended (wrong p ∷ ts) = Unit {0}

ended_cons : (t : Tok) (ts : List Tok) → Ended ts → Ended (t ∷ ts)
ended_cons (good w p) ts h = λ e. h
ended_cons (wrong p) ts h = tt

pub ended_tokens : (k p : ℕ) (text : List ℕ) → Ended (tokens k p text)
ended_tokens k p [] = λ e. absurd (cc)
ended_tokens zero p (b ∷ bs) = by (blank b) (ended_tokens 0 (p + 1) bs) (ended_tokens (tail b bs) (p + 1) bs)
  where
    by : (v : Bool) → Ended (tokens 0 (p + 1) bs) → Ended (tokens (tail b bs) (p + 1) bs) → Ended (cond v (tokens 0 (p + 1) bs) (first p b (b ∷ bs) ∷ tokens (tail b bs) (p + 1) bs))
    by true h k = h
    by false h k = ended_cons (first p b (b ∷ bs)) (tokens (tail b bs) (p + 1) bs) k
ended_tokens (suc k) p (b ∷ bs) = ended_tokens k (p + 1) bs

pub took_ended : (ws : List Word) (ts us : List Tok) → Took ws ts us → Ended ts → Ended us
took_ended [] ts us h k = rw (← h) k
took_ended (w ∷ ws) [] us h k = absurd h
took_ended (w ∷ ws) (good v p ∷ ts) us h k = took_ended ws ts us h.2 (k (ap is_end h.0 ∙ h.1))
took_ended (w ∷ ws) (wrong p ∷ ts) us h k = absurd h

-- where the end is taken, no words are left
pub end_given : (ts : List Tok) (e m : ℕ) → Ended ts → Gives (λ t z. is_end t.word ≡ true → words ts ≡ Some []) (token (at ts e m))
end_given [] e m h = absurd h
end_given (good w p ∷ ts) e m h = given (λ q. rw q)
end_given (wrong p ∷ ts) e m h = failed
