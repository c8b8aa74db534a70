-- Walks: one arc more at the end, their cost, and where they end.
use Rattle.std.proofs.Common.{◌≡◌, ℕ, true, List, [], ◌∷◌, ◌++◌, sym, refl, subst, inl, inr}
use Rattle.std.specs.List.{AllByRecursion}
use Rattle.std.proofs.ByRecursion.{All-weaker}
use Rattle.streets.specs.declared.arc.Arc.{Arc}
use Rattle.streets.specs.Network.{Network}
use Rattle.costs.specs.Kind.{Kind, Lawful}
use Rattle.costs.specs.Walk.{cost_from}
use Rattle.policies.specs.Automaton.{Automaton, final}
use Rattle.search_laws.specs.Walks.{In, Walk, steps, word_after}
use Rattle.search_laws.proofs.Choice.{leq_self}

pub walk_push : (N : Network) (p : ℕ) (bs : List Arc) (q : ℕ) (a : Arc) → Walk N p bs q → In a (N.arcs q) → Walk N p (bs ++ (a ∷ [])) a.head
walk_push N p [] q a e h = (subst (λ x. In a (N.arcs x)) (sym e) h, refl)
walk_push N p (b ∷ bs) q a w h = (w.0, walk_push N b.head bs q a w.1 h)

pub word_push : (P : Automaton) (w : ℕ) (bs : List Arc) (a : Arc) → word_after P w (bs ++ (a ∷ [])) ≡ P.cross (word_after P w bs) a.number a.head
word_push P w [] a = refl
word_push P w (b ∷ bs) a = word_push P (P.cross w b.number b.head) bs a

pub cost_push : {V : Type 0} (K : Kind V) (v : V) (bs : List Arc) (a : Arc) → cost_from K v (bs ++ (a ∷ [])) ≡ K.plus (cost_from K v bs) a.weight
cost_push K v [] a = refl
cost_push K v (b ∷ bs) a = cost_push K (K.plus v b.weight) bs a

-- a walk to q ends at q
pub final_walk : (N : Network) (p : ℕ) (bs : List Arc) (q : ℕ) → Walk N p bs q → final p (steps bs) ≡ q
final_walk N p [] q e = e
final_walk N p (a ∷ bs) q w = final_walk N a.head bs q w.1

-- a walk never lowers the cost
pub cost_grows : {V : Type 0} (K : Kind V) → Lawful K → (v : V) (bs : List Arc) → K.leq v (cost_from K v bs) ≡ true
cost_grows K L v [] = leq_self K L v
cost_grows K L v (b ∷ bs) = L.trans _ _ _ (L.grows v b.weight) (cost_grows K L (K.plus v b.weight) bs)

-- each of a list is in it
pub all_in : {X : Type 0} (xs : List X) → AllByRecursion (λ x. In x xs) xs
all_in [] = tt
all_in (x ∷ xs) = (inl refl, All-weaker _ _ (λ y h. inr h) xs (all_in xs))
