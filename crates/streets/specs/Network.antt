-- What a street map means.
use Rattle.std.specs.Prelude.{◌≡◌, ℕ, zero, suc, ◌+◌, ◌<◌, ◌≤◌, List, [], ◌++◌, length, Some, None, Option}
use Rattle.std.specs.Option.{option_to_list}
use Rattle.streets.specs.declared.arc.Arc.{Arc}
use Rattle.streets.specs.Limits.{points_limit, numbers_end, seconds_limit, climb_limit, toll_limit}

-- The meaning of a map: how many points it has, and the list of arcs that leave each of them.
pub record Network : Type 0 where
  pub points : ℕ
  pub arcs : ℕ → List Arc

-- What a map answers: its points, how many slots a point has, and what a slot holds.
pub record View : Type 0 where
  pub points : ℕ
  pub slots : ℕ → ℕ
  pub slot : ℕ → ℕ → Option Arc

-- what the first n slots hold, empty ones skipped
abbrev pub listed : (ℕ → Option Arc) → ℕ → List Arc
listed f zero = []
listed f (suc n) = listed f n ++ option_to_list (f n)

-- The slots of a point from 0 up, empty ones skipped, give its list.
abbrev pub network : View → Network
network v = record { points = v.points; arcs = λ p. listed (v.slot p) (v.slots p) }

-- an arc within the limits, on a map of n points
pub record Fine (n : ℕ) (a : Arc) : Type 0 where
  pub number : a.number < numbers_end
  pub head : a.head < n
  pub seconds : a.weight.seconds ≤ seconds_limit
  pub climb : a.weight.climb ≤ climb_limit
  pub toll : a.weight.toll ≤ toll_limit

-- The laws: a point outside has no slots, a slot outside holds nothing, arcs are within the limits, and no two share a number.
pub record Lawful (v : View) : Type 0 where
  pub points : v.points ≤ points_limit
  pub outside : (p : ℕ) → v.points ≤ p → v.slots p ≡ 0
  pub past : (p k : ℕ) → v.slots p ≤ k → v.slot p k ≡ None
  pub fine : (p k : ℕ) (a : Arc) → v.slot p k ≡ Some a → Fine v.points a
  pub apart : (p q j k : ℕ) (a b : Arc) → v.slot p j ≡ Some a → v.slot q k ≡ Some b → a.number ≡ b.number → (p ≡ q) × (j ≡ k)

-- how many arcs leave the first n points
abbrev pub arc_total : (ℕ → List Arc) → ℕ → ℕ
arc_total arcs zero = 0
arc_total arcs (suc n) = arc_total arcs n + length (arcs n)
