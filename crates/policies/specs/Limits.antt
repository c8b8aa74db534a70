-- How many bits and doorsteps there are at most, stated for the contracts.
use Rattle.std.specs.Prelude.{ℕ, suc}

-- a policy has at most this many bits
abbrev pub width_limit : ℕ
width_limit = 32

-- the width of a policy that would need more
abbrev pub too_wide : ℕ
too_wide = suc width_limit

-- at most this many doorsteps
abbrev pub stops_limit : ℕ
stops_limit = 16
