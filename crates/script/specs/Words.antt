-- The words of a line.
use Rattle.std.specs.Prelude.{◌≡◌, ℕ, zero, suc, Bool, cond, not, ◌||◌, List, [], ◌∷◌, take, Some, None, Option, ◌==◌}
use Rattle.std.specs.Borrow.{Bor}
use Rattle.std.specs.List.{prefix_len}

-- a space or a tab
abbrev pub blank : ℕ → Bool
blank b = b == 32 || b == 9

abbrev pub solid : ℕ → Bool
solid b = not (blank b)

-- the words of a line once its first k bytes are passed over: a word is a longest run without blanks
abbrev pub words_after : ℕ → List ℕ → List (List ℕ)
words_after k [] = []
words_after zero (b ∷ bs) = cond (blank b) (words_after 0 bs) (take (prefix_len solid (b ∷ bs)) (b ∷ bs) ∷ words_after (prefix_len solid bs) bs)
words_after (suc k) (b ∷ bs) = words_after k bs

abbrev pub words_of : List ℕ → List (List ℕ)
words_of line = words_after 0 line

-- the first of the words, and a text that has the others
abbrev pub Splits : Option (Bor (List ℕ) × Bor (List ℕ)) → List (List ℕ) → Type 0
Splits None ws = ws ≡ []
Splits (Some p) ws = ws ≡ p.0.now ∷ words_of p.1.now
