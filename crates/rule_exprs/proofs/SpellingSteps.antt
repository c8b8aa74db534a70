-- Single tokens, terms and places that are spelled are given, where the counts have room.
use Rattle.std.proofs.Common.{◌≡◌, ℕ, ◌+◌, ◌<◌, ◌≤◌, Bool, true, false, cond, List, [], ◌∷◌, refl, ap, ◌∙◌, ap₂, add-zero, arith}
use Rattle.std.proofs.lemmas.Bool.{lt-ltb, lt-leb, ne_eqb}
use Rattle.streets.specs.Limits.{points_limit, numbers_end}
use Rattle.rule_tokens.specs.Lex.{Word, numeral, opens, closes, Lexeme, Tok, good, wrong}
use Rattle.rule_exprs.specs.Limits.{expressions_limit, terms_limit}
use Rattle.rule_exprs.specs.declared.expr.Place.{Place}
use Rattle.rule_exprs.specs.declared.expr.Place.TheVariants as place
use Rattle.rule_exprs.specs.Formulas.{FinePlace}
use Rattle.rule_exprs.specs.Grammar.{St, Out, gives, bind, a_number, bracket, end_bracket, counted, term, a_place}
use Rattle.rule_exprs.proofs.SpellingTaken.{Took, at, lexeme}
use Rattle.rule_exprs.proofs.SpellingReads.{Worth, places}

-- one step, and then the others
pub bound : {A B : Type 0} {o : Out A} {a : A} {s : St} {r : Out B} (k : A → St → Out B) → o ≡ gives a s → k a s ≡ r → bind o k ≡ r
bound k e f = ap (λ o. bind o k) e ∙ f

pub same_given : {A : Type 0} {a : A} {ts : List Tok} {e f m n : ℕ} → e ≡ f → m ≡ n → gives a (at ts e m) ≡ gives a (at ts f n)
same_given {a = a} {ts} p q = ap₂ (λ e m. gives a (at ts e m)) p q

-- the token of the first word
pub first_took : (w : Word) (ws : List Word) (ts us : List Tok) → Took (w ∷ ws) ts us → (p : ℕ) × (vs : List Tok) × (ts ≡ good w p ∷ vs) × Took ws vs us
first_took w ws [] us h = absurd h
first_took w ws (good v p ∷ ts) us h = (p, ts, ap (λ u. good u p ∷ ts) h.0, h.2)
first_took w ws (wrong p ∷ ts) us h = absurd h

number_taken : (end n : ℕ) (ts us : List Tok) (e m : ℕ) → n < end → Took (numeral n ∷ []) ts us → a_number end (at ts e m) ≡ gives n (at us e m)
number_taken end n ts us e m l h =
    let f = first_took (numeral n) [] ts us h in
    rw (f.2, lt-ltb n end l, f.3)

pub bracket_taken : (d : ℕ) (ts us : List Tok) (e m : ℕ) → 1 ≤ d → Took (opens ∷ []) ts us → bracket d (at ts e m) ≡ gives tt (at us e m)
bracket_taken d ts us e m l h =
    let f = first_took opens [] ts us h in
    rw (f.2, ne_eqb d 0 (λ z. omega arith), f.3)

pub end_bracket_taken : (ts us : List Tok) (e m : ℕ) → Took (closes ∷ []) ts us → end_bracket (at ts e m) ≡ gives tt (at us e m)
end_bracket_taken ts us e m h =
    let f = first_took closes [] ts us h in
    rw (f.2, f.3)

pub counted_taken : (p : ℕ) (marked : Bool) (ts : List Tok) (e m : ℕ) → e + 1 ≤ expressions_limit → m + cond marked 1 0 ≤ terms_limit → counted p marked (at ts e m) ≡ gives tt (at ts (e + 1) (m + cond marked 1 0))
counted_taken p true ts e m k l = rw (lt-leb expressions_limit e (omega arith), lt-leb terms_limit m (omega arith))
counted_taken p false ts e m k l = rw (lt-leb expressions_limit e (omega arith), add-zero)

pub term_taken : (p : ℕ) (marked : Bool) (end n : ℕ) (ts us : List Tok) (e m : ℕ) → n < end → Took (numeral n ∷ []) ts us → e + 1 ≤ expressions_limit → m + cond marked 1 0 ≤ terms_limit
    → term p marked end (at ts e m) ≡ gives n (at us (e + 1) (m + cond marked 1 0))
term_taken p marked end n ts us e m l h j k = bound _ (counted_taken p marked ts e m j k) (number_taken end n ts us (e + 1) (m + cond marked 1 0) l h)

-- what is written as x, from a token on, is given as x, where the counts have room
abbrev pub Takes : {X : Type 0} → Worth X → (Lexeme → St → Out X) → X → Type 0
Takes v member x = (w : Word) (p : ℕ) (ts us : List Tok) (e m : ℕ) → Took (v.written x) (good w p ∷ ts) us → e + v.size x ≤ expressions_limit → m + v.marks x ≤ terms_limit
    → member (lexeme w p) (at ts e m) ≡ gives x (at us (e + v.size x) (m + v.marks x))

pub place_taken : (x : Place) → FinePlace x → Takes places a_place x
place_taken (place.At n) l w p ts us e m h j k = rw h.0 (bound _ (term_taken p true points_limit n ts us e m l h.2 j k) refl)
place_taken (place.Use n) l w p ts us e m h j k = rw h.0 (bound _ (term_taken p true numbers_end n ts us e m l h.2 j k) refl)
