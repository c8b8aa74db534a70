-- The limits of every street map, stated for the contracts.
use Rattle.std.specs.Prelude.{ℕ}

-- a map has at most this many points
abbrev pub points_limit : ℕ
points_limit = 1024

-- arc numbers are those below this
abbrev pub numbers_end : ℕ
numbers_end = 4096

abbrev pub seconds_limit : ℕ
seconds_limit = 3600

-- per mille
abbrev pub climb_limit : ℕ
climb_limit = 400

-- cents
abbrev pub toll_limit : ℕ
toll_limit = 10000

-- a yard grid has 1 to this many rows, and as many columns
abbrev pub side_limit : ℕ
side_limit = 32
