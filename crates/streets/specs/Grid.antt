-- A yard grid: point = row × columns + column, each point joined to its neighbours.
use Rattle.std.specs.Prelude.{ℕ, zero, suc, ◌+◌, ◌-◌, ◌*◌, ◌/◌, ◌%◌, Bool, if◌then◌else◌, ◌&&◌, Some, None, Option, ◌==◌, nat_le, nat_lt}
use Rattle.streets.specs.declared.arc.Arc.{Arc}
use Rattle.streets.specs.Network.{View}
use Rattle.streets.specs.Limits.{side_limit, seconds_limit, climb_limit}

-- the neighbour that slot k of the point at this row and column leads to: next column, next row, previous column, previous row
abbrev pub neighbour : (rows columns row column k : ℕ) → Option ℕ
neighbour r c i j zero = if nat_lt (j + 1) c then Some (i * c + (j + 1)) else None
neighbour r c i j (suc zero) = if nat_lt (i + 1) r then Some ((i + 1) * c + j) else None
neighbour r c i j (suc (suc zero)) = if nat_lt 0 j then Some (i * c + (j - 1)) else None
neighbour r c i j (suc (suc (suc zero))) = if nat_lt 0 i then Some ((i - 1) * c + j) else None
neighbour r c i j (suc (suc (suc (suc k)))) = None

-- slot 3 climbs, others are flat; there is no toll
abbrev pub way : (seconds climb p k : ℕ) → Option ℕ → Option Arc
way s u p k None = None
way s u p k (Some h) = Some (record { number = 4 * p + k; head = h; weight = record { seconds = s; climb = (if k == 3 then u else 0); toll = 0 } })

abbrev pub grid : (rows columns seconds climb : ℕ) → View
grid r c s u = record {
  points = r * c;
  slots = λ p. if nat_lt p (r * c) then 4 else 0;
  slot = λ p k. if nat_lt p (r * c) then way s u p k (neighbour r c (p / c) (p % c) k) else None;
}

-- whether a grid may be made from these numbers
abbrev pub gridable : (rows columns seconds climb : ℕ) → Bool
gridable r c s u = nat_le 1 r && (nat_le r side_limit && (nat_le 1 c && (nat_le c side_limit && (nat_le s seconds_limit && nat_le u climb_limit))))

-- made from other numbers, it has no points
abbrev pub made_grid : (rows columns seconds climb : ℕ) → View
made_grid r c s u = if gridable r c s u then grid r c s u else grid 0 0 0 0
