-- What an answer of the search says, and what it means that it is right.
use Rattle.std.specs.Prelude.{◌≡◌, ℕ, suc, ◌*◌, ◌^◌, ◌<◌, ◌≤◌, true, List, [], ◌∷◌, length}
use Rattle.std.specs.List.{AllByRecursion}
use Rattle.streets.specs.declared.arc.Arc.{Arc}
use Rattle.streets.specs.Network.{Network}
use Rattle.costs.specs.Kind.{Kind}
use Rattle.costs.specs.Walk.{cost_of}
use Rattle.policies.specs.declared.step.Step.{Step}
use Rattle.policies.specs.Automaton.{Automaton}
use Rattle.search_laws.specs.Walks.{In, Walk, word_after, Permitted}
use Rattle.search_laws.specs.Search.{Outcome, Tour, NoRoute, PoolExhausted, search}

-- a state, a point with a word, is reached by a walk from start
abbrev pub Reachable : Network → Automaton → ℕ → ℕ × ℕ → Type 0
Reachable N P start x = (bs : List Arc) × Walk N start bs x.0 × (word_after P (P.depart start) bs ≡ x.1)

-- no element stands twice in the list
abbrev pub Apart : {X : Type 0} → List X → Type 0
Apart [] = Unit {0}
Apart (x ∷ xs) = (In x xs → ⊥) × Apart xs

-- more states than the pool has labels are reached
abbrev pub Crowded : Network → Automaton → ℕ → ℕ → Type 0
Crowded N P start pool = (xs : List (ℕ × ℕ)) × (length xs ≡ suc pool) × Apart xs × AllByRecursion (Reachable N P start) xs

-- A tour is a permitted walk of that cost, and no permitted walk costs less; where there is no route, no walk is permitted;
-- and the pool is exhausted only where more states are reached than it has labels.
abbrev pub Right : {V : Type 0} → Network → Kind V → Automaton → (ℕ → List Step → Type 0) → ℕ → ℕ → ℕ → Outcome V → Type 0
Right N K P Permits start goal pool (Tour c bs t) =
    Permitted N Permits start goal bs × (c ≡ cost_of K bs) × ((cs : List Arc) → Permitted N Permits start goal cs → K.leq c (cost_of K cs) ≡ true)
Right N K P Permits start goal pool (NoRoute t) = (cs : List Arc) → Permitted N Permits start goal cs → ⊥
Right N K P Permits start goal pool (PoolExhausted t) = Crowded N P start pool

-- how many labels were settled
abbrev pub settlings : {V : Type 0} → Outcome V → ℕ
settlings (Tour c bs t) = t
settlings (NoRoute t) = t
settlings (PoolExhausted t) = t

-- The theorem at one network, kind of cost and policy: the answer is right, and no more labels are settled than the pool has.
abbrev pub Sound : {V : Type 0} → Network → Kind V → Automaton → (ℕ → List Step → Type 0) → ℕ → ℕ → ℕ → Type 0
Sound N K P Permits start goal pool =
    Right N K P Permits start goal pool (search N K P start goal pool) × (settlings (search N K P start goal pool) ≤ pool)

-- start is a point, and arcs lead to points
abbrev pub Within : Network → ℕ → Type 0
Within N start = (start < N.points) × ((p : ℕ) (a : Arc) → In a (N.arcs p) → a.head < N.points)

-- A pool with a label for each point and each word is never exhausted.
abbrev pub Roomy : {V : Type 0} → Network → Kind V → Automaton → ℕ → ℕ → ℕ → Type 0
Roomy N K P start goal pool = Within N start → N.points * 2 ^ P.width ≤ pool → (t : ℕ) → search N K P start goal pool ≡ PoolExhausted t → ⊥

-- A larger pool changes no answer but one: that the pool is exhausted.
abbrev pub Steady : {V : Type 0} → Network → Kind V → Automaton → ℕ → ℕ → ℕ → ℕ → Type 0
Steady N K P start goal pool larger =
    pool ≤ larger → ((t : ℕ) → search N K P start goal pool ≡ PoolExhausted t → ⊥) → search N K P start goal larger ≡ search N K P start goal pool
