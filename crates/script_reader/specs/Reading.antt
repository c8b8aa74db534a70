-- What a whole script is read as.
use Rattle.std.specs.Prelude.{◌≡◌, ℕ, ◌+◌, ◌-◌, ◌<◌, Bool, cond, not, List, [], ◌∷◌, length, take, Some, None, Ok, Err, Option, Result, ◌==◌, slice_index}
use Rattle.std.specs.Borrow.{Bor}
use Rattle.script.specs.declared.mistakes.Expected.{Expected}
use Rattle.script.specs.Words.{words_of}
use Rattle.script.specs.Arguments.{then}
use Rattle.script.specs.Lines.{says}
use Rattle.script_reader.specs.Drafts.{Written, unwritten, step, Outcome, wrong, finish}

-- no line feed
abbrev pub unbroken : ℕ → Bool
unbroken b = not (b == 10)

-- b before the first of some lines
abbrev pub onto : ℕ → List (List ℕ) → List (List ℕ)
onto b [] = []
onto b (l ∷ ls) = (b ∷ l) ∷ ls

-- a text cut at its line feeds
abbrev pub cut : List ℕ → List (List ℕ)
cut [] = [] ∷ []
cut (b ∷ bs) = cond (unbroken b) (onto b (cut bs)) ([] ∷ cut bs)

-- a line without a carriage return at its end
abbrev pub without_return : List ℕ → List ℕ
without_return l = cond (slice_index l (length l - 1) == 13) (take (length l - 1) l) l

-- every line but the last ends at a line feed
abbrev pub without_returns : List (List ℕ) → List (List ℕ)
without_returns [] = []
without_returns (l ∷ []) = l ∷ []
without_returns (l ∷ m ∷ ls) = without_return l ∷ without_returns (m ∷ ls)

abbrev pub lines_of : List ℕ → List (List ℕ)
lines_of text = without_returns (cut text)

-- the first line, and a text that has the others; or there is no line feed
abbrev pub Cuts : Option (Bor (List ℕ) × Bor (List ℕ)) → List ℕ → Type 0
Cuts None text = lines_of text ≡ text ∷ []
Cuts (Some p) text = (lines_of text ≡ p.0.now ∷ lines_of p.1.now) × (length p.1.now < length text)

abbrev pub line_step : Written → List ℕ → Result Written Expected
line_step s l = then (says (words_of l)) (step s)

abbrev pub or_wrong : Result Written Expected → ℕ → (Written → Outcome) → Outcome
or_wrong (Ok s) n next = next s
or_wrong (Err e) n next = wrong n e

-- the lines after the first n, which say s: the first wrong one decides
abbrev pub read_from : ℕ → Written → List (List ℕ) → Outcome
read_from n s [] = finish n s
read_from n s (l ∷ ls) = or_wrong (line_step s l) (n + 1) (λ t. read_from (n + 1) t ls)

abbrev pub read_of : List ℕ → Outcome
read_of text = read_from 0 unwritten (lines_of text)
