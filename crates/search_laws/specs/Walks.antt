-- Walks over a network, and which of them a policy permits.
use Rattle.std.specs.Prelude.{◌≡◌, ℕ, ◌⊎◌, List, [], ◌∷◌}
use Rattle.streets.specs.declared.arc.Arc.{Arc}
use Rattle.streets.specs.Network.{Network}
use Rattle.policies.specs.declared.step.Step.{Step}
use Rattle.policies.specs.Automaton.{Automaton, after}

-- x is one of the list
abbrev pub In : {X : Type 0} → X → List X → Type 0
In x [] = ⊥
In x (y ∷ ys) = (x ≡ y) ⊎ In x ys

-- The arcs lead from p to q, each in the list of the point where the walk then stands.
abbrev pub Walk : Network → ℕ → List Arc → ℕ → Type 0
Walk N p [] q = p ≡ q
Walk N p (a ∷ bs) q = In a (N.arcs p) × Walk N a.head bs q

-- what a policy is told of the arcs
abbrev pub steps : List Arc → List Step
steps [] = []
steps (a ∷ bs) = record { number = a.number; head = a.head } ∷ steps bs

-- the word after the arcs, from the word w on
abbrev pub word_after : Automaton → ℕ → List Arc → ℕ
word_after m w bs = after m w (steps bs)

-- A walk of the network from start to goal that is in the policy's set of walks.
abbrev pub Permitted : Network → (ℕ → List Step → Type 0) → ℕ → ℕ → List Arc → Type 0
Permitted N Permits start goal bs = Walk N start bs goal × Permits start (steps bs)
