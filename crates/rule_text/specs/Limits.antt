-- The limits on a rule text.
use Rattle.std.specs.Prelude.{ℕ}

-- a text has at most this many bytes
abbrev pub text_limit : ℕ
text_limit = 4096

-- a book has at most this many rules
abbrev pub rules_limit : ℕ
rules_limit = 16

-- the highest number of a rule; the lowest is 1
abbrev pub number_limit : ℕ
number_limit = 9999
