-- What bytes hold at their places, and what is wrong with bytes that are no file.
use Rattle.std.specs.Prelude.{◌≡◌, ℕ, zero, suc, ◌+◌, ◌*◌, Bool, false, if◌then◌else◌, not, ◌&&◌, ◌||◌, List, [], length, Some, None, Option, ◌==◌, nat_le, nat_lt, slice_index, slice_index_or}
use Rattle.streets.specs.declared.arc.Arc.{Arc}
use Rattle.streets.specs.declared.refusal.Refusal.{Refusal}
use Rattle.streets.specs.declared.refusal.Refusal.TheVariants.{FileLength, FileCounts, PairOutOfLine, RecordOutside, NumberTaken}
use Rattle.streets.specs.Network.{View, network}
use Rattle.streets.specs.Limits.{points_limit, numbers_end, seconds_limit, climb_limit, toll_limit}
use Rattle.map_file.specs.Format.{records_limit, encode, Valid}

-- the field at a place, low byte first
abbrev pub field_at : List ℕ → ℕ → ℕ
field_at b i = slice_index b i + 256 * slice_index b (i + 1)

-- n, how many points there are
abbrev pub points : List ℕ → ℕ
points b = field_at b 0

-- m, how many records there are
abbrev pub records : List ℕ → ℕ
records b = field_at b 2

-- the pair of a point: its first record, and how many it has
abbrev pub offset : List ℕ → ℕ → ℕ
offset b p = field_at b (4 + 4 * p)

abbrev pub many : List ℕ → ℕ → ℕ
many b p = field_at b (6 + 4 * p)

-- where record i begins
abbrev pub record_at : List ℕ → ℕ → ℕ
record_at b i = 4 + 4 * points b + 10 * i

abbrev pub arc_at : List ℕ → ℕ → Arc
arc_at b i = record {
  number = field_at b (record_at b i);
  head = field_at b (record_at b i + 2);
  weight = record { seconds = field_at b (record_at b i + 4); climb = field_at b (record_at b i + 6); toll = field_at b (record_at b i + 8) };
}

-- where the records of the points before p end
abbrev pub end_before : List ℕ → ℕ → ℕ
end_before b zero = 0
end_before b (suc p) = offset b p + many b p

abbrev pub is_in_line : List ℕ → ℕ → Bool
is_in_line b p = offset b p == end_before b p

-- head, seconds, climb and toll are within their ranges
abbrev pub is_within : ℕ → Arc → Bool
is_within n a = nat_lt a.head n && (nat_le a.weight.seconds seconds_limit && (nat_le a.weight.climb climb_limit && nat_le a.weight.toll toll_limit))

-- whether one of the first i records has this number
abbrev pub taken : List ℕ → ℕ → ℕ → Bool
taken b zero number = false
taken b (suc i) number = taken b i number || (arc_at b i).number == number

-- record i's number is in range and new
abbrev pub is_new : List ℕ → ℕ → Bool
is_new b i = nat_lt (arc_at b i).number numbers_end && not (taken b i (arc_at b i).number)

-- an earlier place, or n where that fails
abbrev pub first_or : Option ℕ → Bool → ℕ → Option ℕ
first_or (Some i) passes n = Some i
first_or None passes n = if passes then None else Some n

-- the first index below n at which a test fails
abbrev pub first_failing : (ℕ → Bool) → ℕ → Option ℕ
first_failing test zero = None
first_failing test (suc n) = first_or (first_failing test n) (test n) n

-- The first check that fails decides. The three on the counts come first.
abbrev pub counts_fault : List ℕ → Option Refusal
counts_fault b =
    if nat_lt (length b) 4 then Some FileLength
    else (if nat_le 1 (points b) && (nat_le (points b) points_limit && nat_le (records b) records_limit)
    then (if length b == 4 + 4 * points b + 10 * records b then None else Some FileLength)
    else Some FileCounts)

-- a fault with the place of the first that fails
abbrev pub fault_at : (ℕ → Refusal) → Option ℕ → Option Refusal
fault_at name None = None
fault_at name (Some i) = Some (name i)

-- a pair out of line, at its point; at n where only the last end misses m
abbrev pub pairs_fault : List ℕ → Option Refusal
pairs_fault b = fault_at PairOutOfLine (first_or (first_failing (is_in_line b) (points b)) (end_before b (points b) == records b) (points b))

abbrev pub records_fault : List ℕ → Option Refusal
records_fault b = fault_at RecordOutside (first_failing (λ i. is_within (points b) (arc_at b i)) (records b))

abbrev pub numbers_fault : List ℕ → Option Refusal
numbers_fault b = fault_at NumberTaken (first_failing (is_new b) (records b))

abbrev pub or_else : Option Refusal → Option Refusal → Option Refusal
or_else None later = later
or_else (Some fault) later = Some fault

-- the three that read pairs and records
abbrev pub contents_fault : List ℕ → Option Refusal
contents_fault b = or_else (pairs_fault b) (or_else (records_fault b) (numbers_fault b))

-- what is wrong with the bytes, if anything is
abbrev pub fault_of : List ℕ → Option Refusal
fault_of b = or_else (counts_fault b) (contents_fault b)

-- What a map over accepted bytes answers.
abbrev pub file : List ℕ → View
file b = record {
  points = points b;
  slots = λ p. if nat_lt p (points b) then many b p else 0;
  slot = λ p k. if nat_lt p (points b) then (if nat_lt k (many b p) then Some (arc_at b (offset b p + k)) else None) else None;
}

-- It means the lists that the bytes state: as many points, and of each its list.
abbrev pub MeansStated : List ℕ → View → Type 0
MeansStated b v = (lists : List (List Arc)) → Valid lists → b ≡ encode lists → (v.points ≡ length lists) × ((p : ℕ) → (network v).arcs p ≡ slice_index_or lists p [])
