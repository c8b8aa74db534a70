-- How large a pool may be, stated for the contracts.
use Rattle.std.specs.Prelude.{ℕ}

-- a pool has at most this many labels
abbrev pub labels_limit : ℕ
labels_limit = 65536
