-- The labels in use together with the walks that their links stand for.
use Rattle.std.proofs.Common.{◌≡◌, ℕ, ◌<◌, ◌≤◌, true, ◌⊎◌, List, [], ◌∷◌, ◌++◌, map, length, get_or, Some, Option}
use Rattle.std.specs.List.{AllByRecursion, position_from}
use Rattle.streets.specs.declared.arc.Arc.{Arc}
use Rattle.search_laws.specs.Search.{Label as Walked, is_at}
use Rattle.search.specs.declared.label.Label.{Label}
use Rattle.search.specs.Links.{walked, bare, place}

-- a label and its walk
abbrev pub Strand : Type 0 → Type 0
Strand V = Label V × List Arc

abbrev pub rows : {V : Type 0} → List (Strand V) → List (Label V)
rows ps = map (λ q. q.0) ps

abbrev pub labels : {V : Type 0} → List (Strand V) → List (Walked V)
labels ps = map (λ q. walked q.0 q.1) ps

-- the place of the label of a state, counted from i
abbrev pub place_from : {V : Type 0} → ℕ → ℕ → ℕ → List (Label V) → Option ℕ
place_from i p w xs = position_from (λ x. is_at p w (bare x)) i xs

-- q was reached from a settled label, at the place that it names, by the arc that it names
pub record Behind {V : Type 0} (ps : List (Strand V)) (q : Strand V) : Type 0 where
  pub from : Strand V
  pub by : Arc
  pub lower : q.0.parent < length ps
  pub read : get_or ps q.0.parent from ≡ from
  pub done : from.0.settled ≡ true
  pub walk : q.1 ≡ from.1 ++ (by ∷ [])
  pub number : by.number ≡ q.0.arc

-- After t settlings a walk has at most t arcs, and that of a settled label fewer.
pub record Right {V : Type 0} (ps : List (Strand V)) (t : ℕ) (q : Strand V) : Type 0 where
  pub hops : q.0.hops ≡ length q.1
  pub few : q.0.hops ≤ t
  pub fewer : q.0.settled ≡ true → q.0.hops < t
  pub reached : (q.1 ≡ []) ⊎ Behind ps q

-- every label is found at its place, and each is right
pub record Sound {V : Type 0} (ps : List (Strand V)) (t : ℕ) : Type 0 where
  pub own : (i : ℕ) (q : Strand V) → i < length ps → get_or ps i q ≡ q → place q.0.state.point q.0.state.word (rows ps) ≡ Some i
  pub each : AllByRecursion (Right ps t) ps

-- settled labels stay where they are
abbrev pub Keeps : {V : Type 0} → List (Strand V) → List (Strand V) → Type 0
Keeps {V} ps qs = (i : ℕ) (q : Strand V) → i < length ps → get_or ps i q ≡ q → q.0.settled ≡ true → (i < length qs) × (get_or qs i q ≡ q)
