-- Readers that begin at a token, and the members of a bracket: what is given was spelled.
use Rattle.std.proofs.Common.{◌≡◌, ℕ, zero, suc, ◌+◌, ◌≤◌, true, false, ltb, List, [], ◌∷◌, ◌++◌, length, sum_by, refl, ap, arith}
use Rattle.std.specs.List.{flat_map, AllByRecursion}
use Rattle.std.proofs.lemmas.List.{append_assoc}
use Rattle.std.proofs.lemmas.List.Sums.{sum_by-cons}
use Rattle.std.proofs.lemmas.Bool.{ltb-false}
use Rattle.streets.specs.Limits.{points_limit, numbers_end}
use Rattle.rule_tokens.specs.Lex.{Word, name, closes, Lexeme, is_end}
use Rattle.rule_exprs.specs.Limits.{members_least}
use Rattle.rule_exprs.specs.Keywords.{spelling}
use Rattle.rule_exprs.specs.declared.keyword.Keyword.{Keyword}
use Rattle.rule_exprs.specs.declared.keyword.Keyword.TheVariants.{Ban, Need, Then, At, Use, From, To, Not, And, Or, Seq}
use Rattle.rule_exprs.specs.declared.expr.Place.{Place}
use Rattle.rule_exprs.specs.Formulas.{print_place, FinePlace}
use Rattle.rule_exprs.specs.Grammar.{St, Out, wanted, keyword_of, is_close, place_by, a_place, members}
use Rattle.rule_exprs.proofs.SpellingTaken.{lexeme, before, Moved, moved_on, moved_after}
use Rattle.rule_exprs.proofs.SpellingKeywords.{keyword_word}
use Rattle.rule_exprs.proofs.SpellingGiven.{Gives, given, failed, and_then, choice, on_wanted, weaker, token_given}
use Rattle.rule_exprs.proofs.SpellingTerms.{moved_one, close_word, term_given}

-- how things of one kind are written and counted, and which are right
pub record Worth (X : Type 0) : Type 1 where
  pub written : X → List Word
  pub size : X → ℕ
  pub marks : X → ℕ
  pub Right : X → Type 0

-- x stood from the token t on
abbrev pub Reads : {X : Type 0} → Worth X → Lexeme → St → X → St → Type 0
Reads v t s x z = (is_end t.word ≡ false) × Moved (before t s) (v.written x) (v.size x) (v.marks x) z × v.Right x

-- the same, by the keyword at t
pub by_keyword : {X : Type 0} (v : Worth X) (t : Lexeme) (s : St) (on : Keyword → St → Out X)
    → ((k : Keyword) → Gives (λ x z. Moved (before (lexeme (name (spelling k)) t.place) s) (v.written x) (v.size x) (v.marks x) z × v.Right x) (on k s))
    → Gives (Reads v t s) (wanted t.place (keyword_of t.word) on s)
by_keyword v t s on each =
    on_wanted t.place (keyword_of t.word) on s (λ k e.
    let w = keyword_word t.word k e in
    weaker (each k) (λ x z h. (ap is_end w, rw w h.0, h.1)))

abbrev pub places : Worth Place
places = record { written = print_place; size = λ x. 1; marks = λ x. 1; Right = FinePlace }

place_by_given : (p : ℕ) (k : Keyword) (s : St) → Gives (λ x z. Moved (before (lexeme (name (spelling k)) p) s) (print_place x) 1 1 z × FinePlace x) (place_by p k s)
place_by_given p At s = and_then (term_given p true points_limit s) (λ n z h. given (moved_after (lexeme (name (spelling At)) p) refl h.1, h.0))
place_by_given p Use s = and_then (term_given p true numbers_end s) (λ n z h. given (moved_after (lexeme (name (spelling Use)) p) refl h.1, h.0))
place_by_given p Ban s = failed
place_by_given p Need s = failed
place_by_given p Then s = failed
place_by_given p From s = failed
place_by_given p To s = failed
place_by_given p Not s = failed
place_by_given p And s = failed
place_by_given p Or s = failed
place_by_given p Seq s = failed

pub a_place_given : (t : Lexeme) (s : St) → Gives (Reads places t s) (a_place t s)
a_place_given t s = by_keyword places t s (place_by t.place) (λ k. place_by_given t.place k s)

-- the members xs and their closing bracket stood in front, after n members and at most k
pub record Bracketed {X : Type 0} (v : Worth X) (k n : ℕ) (s : St) (xs : List X) (z : St) : Type 0 where
  pub least : members_least ≤ n + length xs
  pub most : length xs ≤ k
  pub moved : Moved s (flat_map v.written xs ++ closes ∷ []) (sum_by v.size xs) (sum_by v.marks xs) z
  pub right : AllByRecursion v.Right xs

module _ {X B : Type 0} (v : Worth X) (nil : B) (cons : X → B → B) (member : Lexeme → St → Out X) (reads : (t : Lexeme) (s : St) → Gives (Reads v t s) (member t s))
    (items : B → List X) (items_nil : items nil ≡ []) (items_cons : (x : X) (b : B) → items (cons x b) ≡ x ∷ items b) where
  closing : (k n : ℕ) (s z : St) (t : Lexeme) → (is_end t.word ≡ false → s ≡ before t z) → is_close t.word ≡ true → ltb n members_least ≡ false → Bracketed v k n s (items nil) z
  closing k n s z t back e l = rw items_nil (record {
    least = omega (arith, ltb-false n members_least l);
    most = omega arith;
    moved = moved_one t closes back (close_word t.word e) refl;
    right = tt;
  })

  one_more : (k n : ℕ) (s y u z : St) (t : Lexeme) (x : X) (b : B) → (is_end t.word ≡ false → s ≡ before t y) → Reads v t y x u → Bracketed v k (n + 1) u (items b) z → Bracketed v (suc k) n s (items (cons x b)) z
  one_more k n s y u z t x b back h rest = rw (items_cons x b) (record {
    least = omega (arith, rest.least);
    most = omega (arith, rest.most);
    moved = rw (back h.0, append_assoc, sum_by-cons v.size x (items b), sum_by-cons v.marks x (items b)) (moved_on h.1 rest.moved);
    right = (h.2, rest.right);
  })

  pub members_given : (k n : ℕ) (s : St) → Gives (λ b z. Bracketed v k n s (items b) z) (members nil cons member k n s)
  unfolding members
  members_given zero n s =
      and_then (token_given s) (λ t z back.
      choice (is_close t.word) (λ e. choice (ltb n members_least) (λ l. failed) (λ l. given (closing zero n s z t back e l))) (λ e. failed))
  members_given (suc k) n s =
      and_then (token_given s) (λ t y back.
      choice (is_close t.word) (λ e. choice (ltb n members_least) (λ l. failed) (λ l. given (closing (suc k) n s y t back e l))) (λ e.
      and_then (reads t y) (λ x u h.
      and_then (members_given k (n + 1) u) (λ b z rest. given (one_more k n s y u z t x b back h rest)))))
