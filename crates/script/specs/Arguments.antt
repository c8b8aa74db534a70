-- What a line's words are after the first.
use Rattle.std.specs.Prelude.{ℕ, List, [], ◌∷◌, Ok, Err, Result}
use Rattle.std.specs.Option.{ok_or}
use Rattle.std.specs.Borrow.{Bor}
use Rattle.script.specs.declared.mistakes.Expected.{Expected}
use Rattle.script.specs.declared.mistakes.Expected.TheVariants.{Number}
use Rattle.script.specs.Words.{words_of}
use Rattle.script.specs.Numbers.{number_of}

-- goes on where nothing was wrong
abbrev pub then : {A B : Type 0} → Result A Expected → (A → Result B Expected) → Result B Expected
then (Ok a) next = next a
then (Err e) next = Err e

abbrev pub numeral_of : List ℕ → Result ℕ Expected
numeral_of w = ok_or (number_of w) Number

-- just one word is left
abbrev pub one_word : Expected → List (List ℕ) → Result (List ℕ) Expected
one_word usage [] = Err usage
one_word usage (w ∷ []) = Ok w
one_word usage (w ∷ v ∷ ws) = Err usage

-- just one word is left, and it is a number
abbrev pub one_number : Expected → List (List ℕ) → Result ℕ Expected
one_number usage ws = then (one_word usage ws) numeral_of

-- the next word is a number, and others may follow
abbrev pub number_first : Expected → List (List ℕ) → Result (ℕ × List (List ℕ)) Expected
number_first usage [] = Err usage
number_first usage (w ∷ ws) = then (numeral_of w) (λ n. Ok (n, ws))

-- what a result that borrows the line holds
abbrev pub lent : Result (Bor (List ℕ)) Expected → Result (List ℕ) Expected
lent (Ok w) = Ok w.now
lent (Err e) = Err e

abbrev pub lent_rest : Result (ℕ × Bor (List ℕ)) Expected → Result (ℕ × List (List ℕ)) Expected
lent_rest (Ok p) = Ok (p.0, words_of p.1.now)
lent_rest (Err e) = Err e
