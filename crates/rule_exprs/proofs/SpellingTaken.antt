-- Tokens taken from the front of a list of tokens, by the words that they say.
use Rattle.std.proofs.Common.{◌≡◌, ℕ, ◌+◌, ◌≤◌, false, List, [], ◌∷◌, ◌++◌, refl, subst₂, arith}
use Rattle.rule_tokens.specs.Lex.{Word, Lexeme, is_end, Tok, good, wrong}
use Rattle.rule_exprs.specs.Limits.{expressions_limit, terms_limit}
use Rattle.rule_exprs.specs.Grammar.{St}

-- the tokens ts begin with those of the words ws, none of them the end, and us are left
abbrev pub Took : List Word → List Tok → List Tok → Type 0
Took [] ts us = ts ≡ us
Took (w ∷ ws) [] us = ⊥
Took (w ∷ ws) (good v p ∷ ts) us = (v ≡ w) × (is_end w ≡ false) × Took ws ts us
Took (w ∷ ws) (wrong p ∷ ts) us = ⊥

pub took_append : (ws vs : List Word) (ts ms us : List Tok) → Took ws ts ms → Took vs ms us → Took (ws ++ vs) ts us
took_append [] vs ts ms us h k = rw h k
took_append (w ∷ ws) vs [] ms us h k = h
took_append (w ∷ ws) vs (good v p ∷ ts) ms us h k = (h.0, h.1, took_append ws vs ts ms us h.2 k)
took_append (w ∷ ws) vs (wrong p ∷ ts) ms us h k = h

pub took_split : (ws vs : List Word) (ts us : List Tok) → Took (ws ++ vs) ts us → (ms : List Tok) × Took ws ts ms × Took vs ms us
took_split [] vs ts us h = (ts, refl, h)
took_split (w ∷ ws) vs [] us h = absurd h
took_split (w ∷ ws) vs (good v p ∷ ts) us h =
    let rest = took_split ws vs ts us h.2 in
    (rest.0, (h.0, h.1, rest.1), rest.2)
took_split (w ∷ ws) vs (wrong p ∷ ts) us h = absurd h

-- a state by its parts
abbrev pub at : List Tok → ℕ → ℕ → St
at ts e m = record { toks = ts; expressions = e; terms = m }

abbrev pub lexeme : Word → ℕ → Lexeme
lexeme w p = record { word = w; place = p }

-- the state before the token t was taken
abbrev pub before : Lexeme → St → St
before t s = at (good t.word t.place ∷ s.toks) s.expressions s.terms

-- From s to z the words ws were taken, a expressions and b marked terms were counted, and the counts kept to the limits.
pub record Moved (s : St) (ws : List Word) (a b : ℕ) (z : St) : Type 0 where
  pub took : Took ws s.toks z.toks
  pub expressions : z.expressions ≡ s.expressions + a
  pub terms : z.terms ≡ s.terms + b
  pub expressions_kept : s.expressions ≤ expressions_limit → z.expressions ≤ expressions_limit
  pub terms_kept : s.terms ≤ terms_limit → z.terms ≤ terms_limit

pub moved_none : (s : St) → Moved s [] 0 0 s
moved_none s = record { took = refl; expressions = omega arith; terms = omega arith; expressions_kept = λ l. l; terms_kept = λ l. l }

pub moved_on : {s y z : St} {ws vs : List Word} {a b c d : ℕ} → Moved s ws a b y → Moved y vs c d z → Moved s (ws ++ vs) (a + c) (b + d) z
moved_on {s} {y} {z} {ws} {vs} h k = record {
  took = took_append ws vs s.toks y.toks z.toks h.took k.took;
  expressions = omega arith;
  terms = omega arith;
  expressions_kept = λ l. k.expressions_kept (h.expressions_kept l);
  terms_kept = λ l. k.terms_kept (h.terms_kept l);
}

-- the same counts in another form
pub moved_so : {s z : St} {ws : List Word} {a b c d : ℕ} → a ≡ c → b ≡ d → Moved s ws a b z → Moved s ws c d z
moved_so {s} {z} {ws} e f h = subst₂ (λ a b. Moved s ws a b z) e f h

-- one token more in front
pub moved_after : {s z : St} {ws : List Word} {a b : ℕ} (t : Lexeme) → is_end t.word ≡ false → Moved s ws a b z → Moved (before t s) (t.word ∷ ws) a b z
moved_after t e h = record {
  took = (refl, e, h.took);
  expressions = h.expressions;
  terms = h.terms;
  expressions_kept = h.expressions_kept;
  terms_kept = h.terms_kept;
}
