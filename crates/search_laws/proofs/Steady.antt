-- A larger pool changes no answer but one: that the pool is exhausted.
use Rattle.std.proofs.Common.{◌≡◌, ℕ, zero, suc, ◌+◌, ◌≤◌, true, cond, ltb, List, [], ◌∷◌, length, refl, arith, None, Some, Option}
use Rattle.std.specs.List.{AllByRecursion}
use Rattle.std.proofs.lemmas.Bool.{both_ways, ltb-true, lt-ltb}
use Rattle.streets.specs.declared.arc.Arc.{Arc}
use Rattle.streets.specs.Network.{Network}
use Rattle.costs.specs.Kind.{Kind, Lawful}
use Rattle.policies.specs.Automaton.{Automaton}
use Rattle.search_laws.specs.Search.{Label, Outcome, Tour, NoRoute, PoolExhausted, find, put, settle, best, relaxed, offer, onward, chain, expand, arrives, resume, visit, turn, run, departure, search}
use Rattle.search_laws.specs.Right.{Steady}
use Rattle.search_laws.proofs.Pool.{on, on_option, none_some, count, all_find, all_settled}
use Rattle.search_laws.proofs.Choice.{Chosen, chosen}
use Rattle.search_laws.proofs.Steps.{run_no_route}
use Rattle.search_laws.proofs.Invariant.{Expanded}
use Rattle.search_laws.proofs.Settling.{Between, inv_next, inv_departure}

-- the answer with the larger pool is the other one, unless that is exhaustion
abbrev Same : {V : Type 0} → Outcome V → Outcome V → Type 0
Same o (Tour c bs t) = o ≡ Tour c bs t
Same o (NoRoute t) = o ≡ NoRoute t
Same o (PoolExhausted t) = Unit {0}

module _ {V : Type 0} (K : Kind V) (P : Automaton) (pool larger : ℕ) (grown : pool ≤ larger) where
  -- where there was room, there is
  relaxed_grown : (n : Label V) (rs ss : List (Label V)) (o : Option (Label V)) → relaxed K pool n rs o ≡ Some ss → relaxed K larger n rs o ≡ Some ss
  relaxed_grown n rs ss None e =
      on (ltb (length rs) pool) (λ b. cond b (Some (put n rs)) None ≡ Some ss → cond (ltb (length rs) larger) (Some (put n rs)) None ≡ Some ss)
      (λ t e. let room = ltb-true (length rs) pool t in rw (lt-ltb (length rs) larger (omega arith)) e)
      (λ t e. none_some refl e)
      e
  relaxed_grown n rs ss (Some r) e = e

  expand_grown : (m : Label V) (bs : List Arc) (rs ss : List (Label V)) → expand K P pool m bs rs ≡ Some ss → expand K P larger m bs rs ≡ Some ss
  expand_grown m [] rs ss e = e
  expand_grown m (a ∷ bs) rs ss e =
      on_option (offer K pool (onward K P m a) rs)
      (λ o. chain o (λ us. expand K P pool m bs us) ≡ Some ss → expand K P larger m (a ∷ bs) rs ≡ Some ss)
      (λ x e. none_some refl e)
      (λ us x e. rw (relaxed_grown (onward K P m a) rs us (find a.head (P.cross m.word a.number a.head) rs) x) (expand_grown m bs us ss e))
      e

module _ {V : Type 0} (K : Kind V) (L : Lawful K) (N : Network) (P : Automaton) (start goal pool larger : ℕ) (grown : pool ≤ larger) where
  -- none waits, so none is chosen
  none_chosen : (f : V) (rs : List (Label V)) → Between K L N P start goal pool f rs → AllByRecursion (λ r. r.settled ≡ true) rs → best K rs ≡ None
  none_chosen f rs i h = go (best K rs) (chosen K L rs)
    where
      go : (o : Option (Label V)) → Chosen K L rs o → o ≡ None
      go None c = refl
      go (Some m) c = absurd (both_ways m.settled c.0 (all_find _ _ _ rs m (c.2 i.distinct) h))

  same_run : (fuel more t : ℕ) → fuel ≤ more → (f : V) (rs : List (Label V)) → Between K L N P start goal pool f rs → length rs ≤ pool → count rs + fuel ≡ pool →
      Same (run N K P goal larger more t rs) (run N K P goal pool fuel t rs)
  same_run zero more t le f rs i fits e = run_no_route N K P goal larger more t rs (none_chosen f rs i (all_settled rs (omega arith)))
  same_run (suc fuel) zero t le f rs i fits e = absurd (omega arith)
  same_run (suc fuel) (suc more) t le f rs i fits e = go (best K rs) (chosen K L rs) (λ g ss. same_run fuel more (suc t) (omega arith) g ss)
    where
      follow : ℕ → ℕ → Label V → Outcome V
      follow size n m = resume (suc t) (run N K P goal size n (suc t)) (expand K P size m (N.arcs m.point) (put (settle m) rs))

      Later : Type 0
      Later = (g : V) (ss : List (Label V)) → Between K L N P start goal pool g ss → length ss ≤ pool → count ss + fuel ≡ pool →
          Same (run N K P goal larger more (suc t) ss) (run N K P goal pool fuel (suc t) ss)

      next : (m : Label V) (o o' : Option (List (Label V))) → ((ss : List (Label V)) → o ≡ Some ss → o' ≡ Some ss) → Expanded K L N P start goal pool m.cost (suc (count rs)) o → Later →
          Same (resume (suc t) (run N K P goal larger more (suc t)) o') (resume (suc t) (run N K P goal pool fuel (suc t)) o)
      next m None o' keep g later = tt
      next m (Some ss) o' keep g later = rw (keep ss refl) (later m.cost ss g.0 g.1 (let c = g.2 in omega arith))

      go : (o : Option (Label V)) → Chosen K L rs o → Later →
          Same (turn t (λ m. visit m (suc t) (follow larger more) (arrives P goal m)) o) (turn t (λ m. visit m (suc t) (follow pool fuel) (arrives P goal m)) o)
      go None h later = refl
      go (Some m) h later =
          on (arrives P goal m) (λ b. Same (visit m (suc t) (follow larger more) b) (visit m (suc t) (follow pool fuel) b))
          (λ u. refl)
          (λ u.
          next m _ _ (λ ss. expand_grown K P pool larger grown m (N.arcs m.point) (put (settle m) rs) ss) (inv_next K L N P start goal pool f rs i fits m h u) later)

same_answer : {V : Type 0} (o o' : Outcome V) → Same o' o → ((t : ℕ) → o ≡ PoolExhausted t → ⊥) → o' ≡ o
same_answer (Tour c bs t) o' h k = h
same_answer (NoRoute t) o' h k = h
same_answer (PoolExhausted t) o' h k = absurd (k t refl)

pub search_steady : {V : Type 0} (K : Kind V) → Lawful K → (N : Network) (P : Automaton) (start goal pool larger : ℕ) → Steady N K P start goal pool larger
search_steady K L N P start goal zero larger grown k = absurd (k 0 refl)
search_steady K L N P start goal (suc pool) zero grown k = absurd (omega arith)
search_steady K L N P start goal (suc pool) (suc larger) grown k =
    same_answer (search N K P start goal (suc pool)) (search N K P start goal (suc larger))
    (same_run K L N P start goal (suc pool) (suc larger) grown (suc pool) (suc larger) 0 grown K.zero (departure K P start ∷ [])
    (inv_departure K L N P start goal (suc pool)) (omega arith) (omega arith))
    k
