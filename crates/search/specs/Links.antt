-- The labels in use, in the order made. In place of its walk a label holds the last arc of it, and the place of the label that it was reached from.
use Rattle.std.specs.Prelude.{◌≡◌, ℕ, zero, suc, ◌+◌, ◌<◌, Bool, true, false, cond, ◌||◌, List, [], ◌∷◌, ◌++◌, length, get_or, take, Some, None, Option, nat_lt, slice_index_or, slice_set}
use Rattle.streets.specs.declared.arc.Arc.{Arc}
use Rattle.std.specs.List.{position_from}
use Rattle.costs.specs.Kind.{Kind}
use Rattle.policies.specs.Automaton.{Automaton}
use Rattle.search_laws.specs.Search.{Label as Walked, is_at, sooner}
use Rattle.search.specs.declared.label.Label.{Label}

-- the label with its walk
abbrev pub walked : {V : Type 0} → Label V → List Arc → Walked V
walked x bs = record { point = x.state.point; word = x.state.word; cost = x.cost; walk = bs; settled = x.settled }

-- what the order of labels and their states are told by; the walk has no part in them
abbrev pub bare : {V : Type 0} → Label V → Walked V
bare x = walked x []

-- the place of the label of a state
abbrev pub place : {V : Type 0} → ℕ → ℕ → List (Label V) → Option ℕ
place p w xs = position_from (λ x. is_at p w (bare x)) 0 xs

-- of the label x at the place i, where it waits, and the best of those behind it
abbrev pub prefer : {V : Type 0} → Kind V → ℕ → Label V → Option (ℕ × Label V) → Option (ℕ × Label V)
prefer K i x None = cond x.settled None (Some (i, x))
prefer K i x (Some s) = cond x.settled (Some s) (cond (sooner K (bare s.1) (bare x)) (Some s) (Some (i, x)))

-- the waiting label to settle next, with its place counted from i
abbrev pub first_from : {V : Type 0} → Kind V → ℕ → List (Label V) → Option (ℕ × Label V)
first_from K i [] = None
first_from K i (x ∷ xs) = prefer K i x (first_from K (i + 1) xs)

abbrev pub first : {V : Type 0} → Kind V → List (Label V) → Option (ℕ × Label V)
first K xs = first_from K 0 xs

-- the label x stays where n is offered for its state
abbrev pub stays : {V : Type 0} → Kind V → Label V → Label V → Bool
stays K x n = x.settled || K.leq x.cost n.cost

abbrev pub offered : {V : Type 0} → Kind V → ℕ → Label V → List (Label V) → Option ℕ → Option (List (Label V))
offered K pool n xs None = cond (nat_lt (length xs) pool) (Some (xs ++ (n ∷ []))) None
offered K pool n xs (Some j) = Some (cond (stays K (slice_index_or xs j n) n) xs (slice_set xs j n))

-- the labels once n was offered, or none where a label beyond the pool is needed
abbrev pub relaxed : {V : Type 0} → Kind V → ℕ → Label V → List (Label V) → Option (List (Label V))
relaxed K pool n xs = offered K pool n xs (place n.state.point n.state.word xs)

-- the first label, waiting
abbrev pub departing : {V : Type 0} → Kind V → ℕ → ℕ → Label V
departing K p w = record { state = record { point = p; word = w }; cost = K.zero; arc = 0; parent = 0; hops = 0; settled = false }

-- the label to which the arc a leads from the label x at the place i
abbrev pub onward : {V : Type 0} → Kind V → Automaton → ℕ → Label V → Arc → Label V
onward K P i x a = record {
  state = record { point = a.head; word = P.cross x.state.word a.number a.head };
  cost = K.plus x.cost a.weight;
  arc = a.number;
  parent = i;
  hops = x.hops + 1;
  settled = false;
}

-- the labels once what a slot holds was followed from the label x at the place i
abbrev pub followed : {V : Type 0} → Kind V → Automaton → ℕ → ℕ → Label V → List (Label V) → Option Arc → Option (List (Label V))
followed K P pool i x xs None = Some xs
followed K P pool i x xs (Some a) = relaxed K pool (onward K P i x a) xs

abbrev pub settle : {V : Type 0} → Label V → Label V
settle x = record {
  state = x.state;
  cost = x.cost;
  arc = x.arc;
  parent = x.parent;
  hops = x.hops;
  settled = true;
}

-- the labels in use, as many as r says
abbrev pub in_use : {V : Type 0} → Option ℕ → List (Label V) → Option (List (Label V))
in_use None pool = None
in_use (Some used) pool = Some (take used pool)

-- s is a waiting label of the list with its place
pub record Waits {V : Type 0} (xs : List (Label V)) (s : ℕ × Label V) : Type 0 where
  pub lower : s.0 < length xs
  pub read : s.1 ≡ slice_index_or xs s.0 s.1
  pub waits : s.1.settled ≡ false

-- the last n arcs of the walk to the label at the place i, by the links
abbrev pub traced : {V : Type 0} → List (Label V) → Label V → ℕ → ℕ → List ℕ
traced xs d zero i = []
traced xs d (suc n) i = traced xs d n (get_or xs i d).parent ++ ((get_or xs i d).arc ∷ [])

-- each of these links is to a label of the list
abbrev pub Linked : {V : Type 0} → List (Label V) → Label V → ℕ → ℕ → Type 0
Linked xs d zero i = Unit {0}
Linked xs d (suc n) i = (i < length xs) × Linked xs d n (get_or xs i d).parent
