-- The number of each refusal, and its place or its count of settled labels.
use Rattle.std.specs.Prelude.{ℕ, Some, None, Option}
use Rattle.streets.specs.declared.refusal.Refusal.{Refusal}
use Rattle.streets.specs.declared.refusal.Refusal.TheVariants.{PointOutside, ArcOutside, PoolSize, RouteShort, FileLength, FileCounts, PairOutOfLine, RecordOutside, NumberTaken, TooWide, PoolExhausted, NoRoute}

-- the number that a planner sees
abbrev pub number_of : Refusal → ℕ
number_of PointOutside = 3
number_of ArcOutside = 4
number_of PoolSize = 5
number_of RouteShort = 6
number_of FileLength = 11
number_of FileCounts = 12
number_of (PairOutOfLine at) = 13
number_of (RecordOutside at) = 14
number_of (NumberTaken at) = 15
number_of TooWide = 34
number_of (PoolExhausted t) = 35
number_of (NoRoute t) = 36

-- a point, a record's index, or the file's beginning; a call's refusal has no place
abbrev pub place_of : Refusal → Option ℕ
place_of PointOutside = None
place_of ArcOutside = None
place_of PoolSize = None
place_of RouteShort = None
place_of FileLength = Some 0
place_of FileCounts = Some 0
place_of (PairOutOfLine at) = Some at
place_of (RecordOutside at) = Some at
place_of (NumberTaken at) = Some at
place_of TooWide = None
place_of (PoolExhausted t) = None
place_of (NoRoute t) = None

-- how many labels were settled, where a search had begun
abbrev pub settled_of : Refusal → Option ℕ
settled_of PointOutside = None
settled_of ArcOutside = None
settled_of PoolSize = None
settled_of RouteShort = None
settled_of FileLength = None
settled_of FileCounts = None
settled_of (PairOutOfLine at) = None
settled_of (RecordOutside at) = None
settled_of (NumberTaken at) = None
settled_of TooWide = None
settled_of (PoolExhausted t) = Some t
settled_of (NoRoute t) = Some t
