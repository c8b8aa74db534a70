-- Single tokens, terms and places: what is given was spelled.
use Rattle.std.proofs.Common.{◌≡◌, ℕ, ◌<◌, ◌≤◌, Bool, true, false, cond, eqb, ltb, leb, [], ◌∷◌, sym, refl, ap, ◌∙◌, add-zero, arith}
use Rattle.std.proofs.lemmas.Bool.{ltb-true, leb-false, eqb-false}
use Rattle.rule_tokens.specs.Lex.{Word, name, numeral, opens, closes, stops, ends, Lexeme, is_end}
use Rattle.rule_exprs.specs.Limits.{expressions_limit, terms_limit}
use Rattle.rule_exprs.specs.Grammar.{St, number_of, is_open, is_close, a_number, bracket, end_bracket, counted, term}
use Rattle.rule_exprs.proofs.SpellingTaken.{before, Moved, moved_none, moved_on, moved_so, moved_after}
use Rattle.rule_exprs.proofs.SpellingKeywords.{number_word}
use Rattle.rule_exprs.proofs.SpellingGiven.{Gives, given, failed, and_then, choice, on_wanted, weaker, token_given}

-- the state s had the token t in front, which is the word w
pub moved_one : {s z : St} (t : Lexeme) (w : Word) → (is_end t.word ≡ false → s ≡ before t z) → t.word ≡ w → is_end w ≡ false → Moved s (w ∷ []) 0 0 z
moved_one {s} {z} t w back e open' =
    let here : is_end t.word ≡ false = ap is_end e ∙ open' in
    rw (back here, ← e) (moved_after t here (moved_none z))

open_word : (w : Word) → is_open w ≡ true → w ≡ opens
open_word (name v) e = cc
open_word (numeral n) e = cc
open_word opens e = refl
open_word closes e = cc
open_word stops e = cc
open_word ends e = cc

pub close_word : (w : Word) → is_close w ≡ true → w ≡ closes
close_word (name v) e = cc
close_word (numeral n) e = cc
close_word opens e = cc
close_word closes e = refl
close_word stops e = cc
close_word ends e = cc

number_given : (end : ℕ) (s : St) → Gives (λ n z. (n < end) × Moved s (numeral n ∷ []) 0 0 z) (a_number end s)
number_given end s =
    and_then (token_given s) (λ t z back.
    on_wanted t.place (number_of t.word) _ z (λ n e.
    choice (ltb n end) (λ l. given (ltb-true n end l, moved_one t (numeral n) back (number_word t.word n e) refl)) (λ l. failed)))

pub bracket_given : (d : ℕ) (s : St) → Gives (λ u z. (1 ≤ d) × Moved s (opens ∷ []) 0 0 z) (bracket d s)
bracket_given d s =
    and_then (token_given s) (λ t z back.
    choice (is_open t.word) (λ e.
    choice (eqb d 0) (λ l. failed) (λ l. given (omega (arith, eqb-false d 0 l), moved_one t opens back (open_word t.word e) refl))) (λ e. failed))

pub end_bracket_given : (s : St) → Gives (λ u z. Moved s (closes ∷ []) 0 0 z) (end_bracket s)
end_bracket_given s =
    and_then (token_given s) (λ t z back.
    choice (is_close t.word) (λ e. given (moved_one t closes back (close_word t.word e) refl)) (λ e. failed))

pub counted_given : (p : ℕ) (marked : Bool) (s : St) → Gives (λ u z. Moved s [] 1 (cond marked 1 0) z) (counted p marked s)
counted_given p true s =
    choice (leb expressions_limit s.expressions) (λ l. failed) (λ l.
    choice (leb terms_limit s.terms) (λ m. failed) (λ m. given (record {
      took = refl;
      expressions = refl;
      terms = refl;
      expressions_kept = λ k. omega (arith, leb-false expressions_limit s.expressions l);
      terms_kept = λ k. omega (arith, leb-false terms_limit s.terms m);
    })))
counted_given p false s =
    choice (leb expressions_limit s.expressions) (λ l. failed) (λ l. given (record {
      took = refl;
      expressions = refl;
      terms = sym (add-zero s.terms);
      expressions_kept = λ k. omega (arith, leb-false expressions_limit s.expressions l);
      terms_kept = λ k. k;
    }))

pub term_given : (p : ℕ) (marked : Bool) (end : ℕ) (s : St) → Gives (λ n z. (n < end) × Moved s (numeral n ∷ []) 1 (cond marked 1 0) z) (term p marked end s)
term_given p marked end s =
    and_then (counted_given p marked s) (λ u y h.
    weaker (number_given end y) (λ n z k. (k.0, moved_so refl (add-zero (cond marked 1 0)) (moved_on h k.1))))
