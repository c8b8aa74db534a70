-- The search, as an executable definition: for a cheapest permitted walk from start to goal, with a pool of labels.
-- A state is a point with a word. There is one label for a state; it holds the cheapest walk to there that was found so far.
use Rattle.std.specs.Prelude.{ℕ, zero, suc, Bool, true, false, cond, ◌&&◌, List, [], ◌∷◌, ◌++◌, length, ◌==◌, nat_lt, None, Some, Option}
use Rattle.streets.specs.declared.arc.Arc.{Arc}
use Rattle.streets.specs.Network.{Network}
use Rattle.costs.specs.Kind.{Kind}
use Rattle.policies.specs.Automaton.{Automaton}

-- a label waits until it is settled
pub record Label (V : Type 0) : Type 0 where
  pub point : ℕ
  pub word : ℕ
  pub cost : V
  pub walk : List Arc
  pub settled : Bool

-- What the search answers: a tour with its cost, its arcs and how many labels were settled, the last included; or that there is no route; or that a label beyond the pool is needed.
pub data Outcome (V : Type 0) : Type 0 where
  Tour : V → List Arc → ℕ → Outcome V
  NoRoute : ℕ → Outcome V
  PoolExhausted : ℕ → Outcome V

-- the label is that of the point p with the word w
abbrev pub is_at : {V : Type 0} → ℕ → ℕ → Label V → Bool
is_at p w r = p == r.point && w == r.word

-- the label of a state
abbrev pub find : {V : Type 0} → ℕ → ℕ → List (Label V) → Option (Label V)
find p w [] = None
find p w (r ∷ rs) = cond (is_at p w r) (Some r) (find p w rs)

-- the label n in place of the one of its state, or behind all if there is none
abbrev pub put : {V : Type 0} → Label V → List (Label V) → List (Label V)
put n [] = n ∷ []
put n (r ∷ rs) = cond (is_at n.point n.word r) (n ∷ rs) (r ∷ put n rs)

abbrev pub settle : {V : Type 0} → Label V → Label V
settle r = record { point = r.point; word = r.word; cost = r.cost; walk = r.walk; settled = true }

-- ties go to the smaller point, then to the smaller word
abbrev pub smaller : {V : Type 0} → Label V → Label V → Bool
smaller s r = cond (s.point == r.point) (nat_lt s.word r.word) (nat_lt s.point r.point)

-- s is to be settled before r: it costs less, or neither costs less and its state is smaller
abbrev pub sooner : {V : Type 0} → Kind V → Label V → Label V → Bool
sooner K s r = cond (K.leq s.cost r.cost) (cond (K.leq r.cost s.cost) (smaller s r) true) false

-- of the label r, where it waits, and the best of the others
abbrev pub pick : {V : Type 0} → Kind V → Label V → Option (Label V) → Option (Label V)
pick K r None = cond r.settled None (Some r)
pick K r (Some s) = cond r.settled (Some s) (cond (sooner K s r) (Some s) (Some r))

-- the waiting label to settle next
abbrev pub best : {V : Type 0} → Kind V → List (Label V) → Option (Label V)
best K [] = None
best K (r ∷ rs) = pick K r (best K rs)

-- A label n is offered: with no label of its state one is made, unless all of the pool are in use; a waiting one that costs more gives way; others stay.
abbrev pub relaxed : {V : Type 0} → Kind V → ℕ → Label V → List (Label V) → Option (Label V) → Option (List (Label V))
relaxed K pool n rs None = cond (nat_lt (length rs) pool) (Some (put n rs)) None
relaxed K pool n rs (Some r) = Some (cond r.settled rs (cond (K.leq r.cost n.cost) rs (put n rs)))

abbrev pub offer : {V : Type 0} → Kind V → ℕ → Label V → List (Label V) → Option (List (Label V))
offer K pool n rs = relaxed K pool n rs (find n.point n.word rs)

-- the label to which the arc a leads from the label m
abbrev pub onward : {V : Type 0} → Kind V → Automaton → Label V → Arc → Label V
onward K P m a = record {
  point = a.head;
  word = P.cross m.word a.number a.head;
  cost = K.plus m.cost a.weight;
  walk = m.walk ++ (a ∷ []);
  settled = false;
}

abbrev pub chain : {A B : Type 0} → Option A → (A → Option B) → Option B
chain None f = None
chain (Some a) f = f a

-- all arcs of the list are followed from the label m, in order
abbrev pub expand : {V : Type 0} → Kind V → Automaton → ℕ → Label V → List Arc → List (Label V) → Option (List (Label V))
expand K P pool m [] rs = Some rs
expand K P pool m (a ∷ bs) rs = chain (offer K pool (onward K P m a) rs) (λ ss. expand K P pool m bs ss)

-- the label stands at the goal and may end there
abbrev pub arrives : {V : Type 0} → Automaton → ℕ → Label V → Bool
arrives P goal r = r.point == goal && P.ends r.word goal

-- how the search goes on: after the arcs of a label; at a label that is settled; at the choice of the next label
abbrev pub resume : {V : Type 0} → ℕ → (List (Label V) → Outcome V) → Option (List (Label V)) → Outcome V
resume t next None = PoolExhausted t
resume t next (Some rs) = next rs

abbrev pub visit : {V : Type 0} → Label V → ℕ → (Label V → Outcome V) → Bool → Outcome V
visit m t on true = Tour m.cost m.walk t
visit m t on false = on m

abbrev pub turn : {V : Type 0} → ℕ → (Label V → Outcome V) → Option (Label V) → Outcome V
turn t on None = NoRoute t
turn t on (Some m) = on m

-- t labels are settled, and fuel more can be: with no fuel left, all labels of the pool are settled, so that none waits
abbrev pub run : {V : Type 0} → Network → Kind V → Automaton → ℕ → ℕ → ℕ → ℕ → List (Label V) → Outcome V
run N K P goal pool zero t rs = NoRoute t
run N K P goal pool (suc fuel) t rs =
    turn t
    (λ m. visit m (suc t) (λ n. resume (suc t) (run N K P goal pool fuel (suc t)) (expand K P pool n (N.arcs n.point) (put (settle n) rs))) (arrives P goal m))
    (best K rs)

-- the first label: the start with its departing word, at no cost, waiting
abbrev pub departure : {V : Type 0} → Kind V → Automaton → ℕ → Label V
departure K P start = record { point = start; word = P.depart start; cost = K.zero; walk = []; settled = false }

-- The search from start to goal with a pool of so many labels.
abbrev pub search : {V : Type 0} → Network → Kind V → Automaton → ℕ → ℕ → ℕ → Outcome V
search N K P start goal zero = PoolExhausted 0
search N K P start goal (suc pool) = run N K P goal (suc pool) (suc pool) 0 (departure K P start ∷ [])
