-- The tokens of a text.
use Rattle.std.specs.Prelude.{ℕ, zero, suc, ◌+◌, ◌-◌, ◌*◌, Bool, true, false, cond, not, ◌&&◌, ◌||◌, List, [], ◌∷◌, length, take, fold, ◌==◌, nat_le, slice_index}
use Rattle.std.specs.List.{prefix_len}

-- what a token says: letters, a number, a bracket, a full stop; and that no token is left
pub data Word : Type 0 where
  name : List ℕ → Word
  numeral : ℕ → Word
  opens : Word
  closes : Word
  stops : Word
  ends : Word

-- a word and the place of its first byte
pub record Lexeme : Type 0 where
  pub word : Word
  pub place : ℕ

-- `wrong` is an unknown byte or a bad digit run
pub data Tok : Type 0 where
  good : Word → ℕ → Tok
  wrong : ℕ → Tok

abbrev pub letter : ℕ → Bool
letter b = nat_le 97 b && nat_le b 122

abbrev pub digit : ℕ → Bool
digit b = nat_le 48 b && nat_le b 57

-- a space or a line feed
abbrev pub blank : ℕ → Bool
blank b = b == 32 || b == 10

-- a number has at most this many digits
abbrev pub digits_limit : ℕ
digits_limit = 5

-- what a run of digits stands for
abbrev pub value : List ℕ → ℕ
value ds = fold (λ n b. n * 10 + (b - 48)) 0 ds

-- few enough digits, and a zero in front only alone
abbrev pub plain : List ℕ → Bool
plain ds = nat_le (length ds) digits_limit && (length ds == 1 || not (slice_index ds 0 == 48))

abbrev pub number : List ℕ → ℕ → Tok
number ds p = cond (plain ds) (good (numeral (value ds)) p) (wrong p)

-- the longest front that passes a test
abbrev pub run : (ℕ → Bool) → List ℕ → List ℕ
run t s = take (prefix_len t s) s

-- the token at the front of s, whose first byte is b
abbrev pub first : ℕ → ℕ → List ℕ → Tok
first p b s =
    cond (letter b) (good (name (run letter s)) p)
    (cond (digit b) (number (run digit s) p)
    (cond (b == 91) (good opens p) (cond (b == 93) (good closes p) (cond (b == 46) (good stops p) (wrong p)))))

-- how many of the bytes bs after b belong to its token
abbrev pub tail : ℕ → List ℕ → ℕ
tail b bs = cond (letter b) (prefix_len letter bs) (cond (digit b) (prefix_len digit bs) 0)

-- the tokens of a text that stands at the place p, once its first k bytes are passed over; the last is the end
abbrev pub tokens : ℕ → ℕ → List ℕ → List Tok
tokens k p [] = good ends p ∷ []
tokens zero p (b ∷ bs) = cond (blank b) (tokens 0 (p + 1) bs) (first p b (b ∷ bs) ∷ tokens (tail b bs) (p + 1) bs)
tokens (suc k) p (b ∷ bs) = tokens k (p + 1) bs

abbrev pub is_end : Word → Bool
is_end (name w) = false
is_end (numeral n) = false
is_end opens = false
is_end closes = false
is_end stops = false
is_end ends = true

-- the next token, and what is left once it is taken: the end stays
abbrev pub head : List Tok → Tok
head [] = good ends 0
head (t ∷ ts) = t

abbrev pub shift : List Tok → List Tok
shift [] = []
shift (good w p ∷ ts) = cond (is_end w) (good w p ∷ ts) ts
shift (wrong p ∷ ts) = ts
