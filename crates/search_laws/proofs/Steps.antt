-- The search step by step, as a loop over labels and over arcs meets it.
use Rattle.std.proofs.Common.{◌≡◌, ℕ, zero, suc, true, false, List, [], ◌∷◌, ◌++◌, refl, ap, ◌∙◌, None, Some, Option}
use Rattle.streets.specs.declared.arc.Arc.{Arc}
use Rattle.streets.specs.Network.{Network}
use Rattle.costs.specs.Kind.{Kind}
use Rattle.policies.specs.Automaton.{Automaton}
use Rattle.search_laws.specs.Search.{Label, Tour, NoRoute, put, settle, best, offer, onward, chain, expand, arrives, resume, run}
use Rattle.search_laws.proofs.Pool.{on_option}

module _ {V : Type 0} (N : Network) (K : Kind V) (P : Automaton) (goal pool : ℕ) where
  -- some arcs, and then some more
  pub expand_append : (m : Label V) (bs cs : List Arc) (rs : List (Label V)) →
      expand K P pool m (bs ++ cs) rs ≡ chain (expand K P pool m bs rs) (λ ss. expand K P pool m cs ss)
  expand_append m [] cs rs = refl
  expand_append m (a ∷ bs) cs rs =
      on_option (offer K pool (onward K P m a) rs)
      (λ o. chain o (λ ss. expand K P pool m (bs ++ cs) ss) ≡ chain (chain o (λ ss. expand K P pool m bs ss)) (λ ss. expand K P pool m cs ss))
      (λ e. refl)
      (λ ss e. expand_append m bs cs ss)

  -- one arc more
  pub expand_push : (m : Label V) (bs : List Arc) (a : Arc) (rs ss : List (Label V)) → expand K P pool m bs rs ≡ Some ss →
      expand K P pool m (bs ++ (a ∷ [])) rs ≡ offer K pool (onward K P m a) ss
  expand_push m bs a rs ss e = expand_append m bs (a ∷ []) rs ∙ ap (λ o. chain o (λ ss. expand K P pool m (a ∷ []) ss)) e ∙ chain_some (offer K pool (onward K P m a) ss)
    where
      chain_some : (o : Option (List (Label V))) → chain o (λ ss. Some ss) ≡ o
      chain_some None = refl
      chain_some (Some rs) = refl

  -- the pool is exhausted at an arc: so it is at all arcs
  pub expand_exhausted : (m : Label V) (bs cs : List Arc) (rs : List (Label V)) → expand K P pool m bs rs ≡ None → expand K P pool m (bs ++ cs) rs ≡ None
  expand_exhausted m bs cs rs e = expand_append m bs cs rs ∙ ap (λ o. chain o (λ ss. expand K P pool m cs ss)) e

  -- the turns of the loop over labels, and its three ends
  pub run_no_route : (fuel t : ℕ) (rs : List (Label V)) → best K rs ≡ None → run N K P goal pool fuel t rs ≡ NoRoute t
  run_no_route zero t rs e = refl
  run_no_route (suc fuel) t rs e = rw e

  pub run_tour : (fuel t : ℕ) (rs : List (Label V)) (m : Label V) → best K rs ≡ Some m → arrives P goal m ≡ true →
      run N K P goal pool (suc fuel) t rs ≡ Tour m.cost m.walk (suc t)
  run_tour fuel t rs m e here = rw (e, here)

  pub run_on : (fuel t : ℕ) (rs : List (Label V)) (m : Label V) → best K rs ≡ Some m → arrives P goal m ≡ false →
      run N K P goal pool (suc fuel) t rs ≡ resume (suc t) (run N K P goal pool fuel (suc t)) (expand K P pool m (N.arcs m.point) (put (settle m) rs))
  run_on fuel t rs m e far = rw (e, far)
