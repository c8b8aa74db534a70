-- A map without the arcs that are marked.
use Rattle.std.specs.Prelude.{ℕ, Bool, false, if◌then◌else◌, not, List, Some, None, filter, Option, slice_index_or}
use Rattle.streets.specs.declared.arc.Arc.{Arc}
use Rattle.streets.specs.Network.{View, Network}

-- whether an arc number is marked in a table
abbrev pub marked : List Bool → ℕ → Bool
marked table n = slice_index_or table n false

-- The meaning of the layer: the network below without the marked arcs.
abbrev pub without : List Bool → Network → Network
without table n = record { points = n.points; arcs = λ p. filter (λ a. not (marked table a.number)) (n.arcs p) }

abbrev pub unless_marked : List Bool → Option Arc → Option Arc
unless_marked table None = None
unless_marked table (Some a) = if marked table a.number then None else Some a

-- what the layer answers: a slot that holds a marked arc is empty
abbrev pub closed : List Bool → View → View
closed table v = record {
  points = v.points;
  slots = v.slots;
  slot = λ p k. unless_marked table (v.slot p k);
}
