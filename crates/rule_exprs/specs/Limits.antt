-- The limits on the expressions of a text.
use Rattle.std.specs.Prelude.{ℕ}

-- a text has at most this many expressions: each counts, also inside another, and each place of a sequence
abbrev pub expressions_limit : ℕ
expressions_limit = 64

-- a text has at most this many marked terms: `at`, `use` and `from`, also as places of a sequence
abbrev pub terms_limit : ℕ
terms_limit = 16

-- an expression without brackets has depth 1, and each bracket adds 1
abbrev pub depth_limit : ℕ
depth_limit = 8

-- `and`, `or` and `seq` have at least and at most this many members
abbrev pub members_least : ℕ
members_least = 2

abbrev pub members_limit : ℕ
members_limit = 8
