-- A line's first word and the words of what stands after it.
use Rattle.std.proofs.Common.{◌≡◌, ℕ, zero, suc, ◌+◌, ◌<◌, ◌≤◌, Bool, true, false, cond, not, List, [], ◌∷◌, length, take, drop, Some, None, unwrap_or, sym, refl, ap, ◌∙◌, one-add, arith}
use Rattle.std.specs.List.{prefix_len, position, position_or_len}
use Rattle.std.proofs.lemmas.Bool.Decides.{nat_tests}
use Rattle.std.proofs.lemmas.List.{drop_all}
use Rattle.std.proofs.lemmas.List.Sums.{prefix_len-drop_yes, prefix_len-le-length, passes_at_first}
use Rattle.script.specs.Words.{blank, solid, words_after, words_of}

passed : (k : ℕ) (bs : List ℕ) → words_after k bs ≡ words_of (drop k bs)
passed zero [] = refl
passed zero (b ∷ bs) = refl
passed (suc k) [] = refl
passed (suc k) (b ∷ bs) = passed k bs

-- blanks in front count for nothing
skip_blanks : (xs : List ℕ) → words_of xs ≡ words_of (drop (position_or_len solid xs) xs)
skip_blanks [] = refl
skip_blanks (b ∷ bs) = by (blank b) refl (skip_blanks bs)
  where
    by : (v : Bool) → blank b ≡ v → words_of bs ≡ words_of (drop (position_or_len solid bs) bs) → words_of (b ∷ bs) ≡ words_of (drop (cond (not (not v)) (1 + position_or_len solid bs) 0) (b ∷ bs))
    by true e more = rw (e, one-add) more
    by false e more = refl

pub first_word : (xs : List ℕ) → (prefix_len solid xs ≡ 0 → ⊥) → words_of xs ≡ take (prefix_len solid xs) xs ∷ words_of (drop (prefix_len solid xs) xs)
first_word [] h = absurd (h refl)
first_word (b ∷ bs) h = by (blank b) refl h
  where
    by : (v : Bool) → blank b ≡ v → (cond (not v) (1 + prefix_len solid bs) 0 ≡ 0 → ⊥) → words_of (b ∷ bs) ≡ take (prefix_len solid (b ∷ bs)) (b ∷ bs) ∷ words_of (drop (prefix_len solid (b ∷ bs)) (b ∷ bs))
    by true e h = absurd (h refl)
    by false e h = rw (e, one-add, passed (prefix_len solid bs) bs)

-- no byte but blanks
pub no_word : (xs : List ℕ) → None ≡ position solid xs → words_of xs ≡ []
no_word xs none =
    let all : length xs ≤ position_or_len solid xs = grind (arith, nat_tests) in
    skip_blanks xs ∙ ap words_of (drop_all (position_or_len solid xs) xs all)

-- the first byte of a word, and the first blank after it, if there is one
pub word_between : (xs ys : List ℕ) (m n : ℕ) → Some m ≡ position solid xs → ys ≡ drop m xs → n ≡ unwrap_or (position blank ys) (length ys) → words_of xs ≡ take n ys ∷ words_of (drop n ys)
word_between xs ys m n some rest end =
    let lt : position_or_len solid xs < length xs = grind (arith, nat_tests) in
    let at : m ≡ position_or_len solid xs = grind (arith, nat_tests) in
    let first : prefix_len solid (drop (position_or_len solid xs) xs) ≡ 1 + prefix_len solid (drop (position_or_len solid xs + 1) xs) = prefix_len-drop_yes solid xs (position_or_len solid xs) 0 lt (passes_at_first solid xs 0 lt) in
    let stop : n ≡ prefix_len solid ys = grind (arith, nat_tests, prefix_len-le-length solid ys) in
    let from : ys ≡ drop (position_or_len solid xs) xs = rest ∙ ap (λ k. drop k xs) at in
    let some_solid : prefix_len solid ys ≡ 0 → ⊥ = λ z. let one : prefix_len solid ys ≡ 1 + prefix_len solid (drop (position_or_len solid xs + 1) xs) = ap (prefix_len solid) from ∙ first in omega arith in
    skip_blanks xs ∙ ap words_of (sym from) ∙ rw stop (first_word ys some_solid)
