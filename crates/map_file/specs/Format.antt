-- The byte format of a street map. What a file states is, for each point, the list of arcs that leave it.
use Rattle.std.specs.Prelude.{◌≡◌, ℕ, ◌+◌, ◌/◌, ◌%◌, ◌<◌, ◌≤◌, List, [], ◌∷◌, ◌++◌, map, length, ◌≢◌, slice_index}
use Rattle.std.specs.List.{flat_map, AllByRecursion}
use Rattle.streets.specs.declared.arc.Arc.{Arc}
use Rattle.streets.specs.Network.{Fine}
use Rattle.streets.specs.Limits.{points_limit}

-- a field: 16 bits, low byte first
abbrev pub field : ℕ → List ℕ
field x = (x % 256) ∷ ((x / 256) ∷ [])

-- a record: number, head, seconds, climb, toll
abbrev pub record_bytes : Arc → List ℕ
record_bytes a = field a.number ++ (field a.head ++ (field a.weight.seconds ++ (field a.weight.climb ++ field a.weight.toll)))

-- the arcs of all points, in order
abbrev pub all_arcs : List (List Arc) → List Arc
all_arcs lists = flat_map (λ arcs. arcs) lists

-- a pair for each point: its offset, which is where the points before it end, and its length
abbrev pub pairs : ℕ → List (List Arc) → List ℕ
pairs offset [] = []
pairs offset (arcs ∷ rest) = (field offset ++ field (length arcs)) ++ pairs (offset + length arcs) rest

-- the file: n, m, the pairs, the records
abbrev pub encode : List (List Arc) → List ℕ
encode lists = (field (length lists) ++ field (length (all_arcs lists))) ++ (pairs 0 lists ++ flat_map record_bytes (all_arcs lists))

-- a file has at most this many records
abbrev pub records_limit : ℕ
records_limit = 4096

-- what may be stated: 1 to 1,024 points, at most 4,096 arcs, each within the limits, no two with one number
pub record Valid (lists : List (List Arc)) : Type 0 where
  pub some : 1 ≤ length lists
  pub few : length lists ≤ points_limit
  pub arcs : length (all_arcs lists) ≤ records_limit
  pub fine : AllByRecursion (Fine (length lists)) (all_arcs lists)
  pub apart : (i j : ℕ) → i < j → j < length (all_arcs lists) → slice_index (map (λ a. a.number) (all_arcs lists)) i ≢ slice_index (map (λ a. a.number) (all_arcs lists)) j

-- the bytes are those of a file that may be stated
abbrev pub Encoded : List ℕ → Type 0
Encoded b = (lists : List (List Arc)) × Valid lists × (b ≡ encode lists)
