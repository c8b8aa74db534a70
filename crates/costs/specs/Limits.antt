-- Where the sums of costs stop.
use Rattle.std.specs.Prelude.{ℕ}

-- the largest number of 32 bits
abbrev pub seconds_most : ℕ
seconds_most = 4294967295
