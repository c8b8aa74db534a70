-- Walks that are at each of some doorsteps.
use Rattle.std.specs.Prelude.{◌≡◌, ℕ, ◌-◌, ◌^◌, if◌then◌else◌, ◌⊎◌, List, [], ◌∷◌, length, take, ◌==◌, bit_or, nat_lt, slice_index}
use Rattle.std.specs.List.{AllByRecursion}
use Rattle.policies.specs.declared.step.Step.{Step}
use Rattle.policies.specs.declared.stops.Stops.{Stops}
use Rattle.policies.specs.Places.{packed}
use Rattle.policies.specs.Automaton.{Automaton}

-- the points to be visited, in the order of the parcels
abbrev pub doorsteps : Stops → List ℕ
doorsteps s = take s.count s.table

-- the walk is at the point x at some time, the departure included
abbrev pub Visits : ℕ → ℕ → List Step → Type 0
Visits x p [] = x ≡ p
Visits x p (s ∷ ss) = (x ≡ p) ⊎ Visits x s.head ss

-- Permitted are the walks that are at every doorstep at some time.
abbrev pub VisitsAll : List ℕ → ℕ → List Step → Type 0
VisitsAll stops p ss = AllByRecursion (λ x. Visits x p ss) stops

-- a bit for each doorstep that is the point p
abbrev pub here : List ℕ → ℕ → ℕ
here stops p = packed (λ i. slice_index stops i == p) (length stops)

-- bit i is set once the walk has been at doorstep i; all must be set
abbrev pub stopping : List ℕ → Automaton
stopping stops = record {
  width = length stops;
  depart = λ p. here stops p;
  cross = λ w n h. if nat_lt w (2 ^ length stops) then bit_or w (here stops h) else 0;
  ends = λ w p. (w == 2 ^ length stops - 1);
}
