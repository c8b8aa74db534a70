-- The invariant from one settling to the next: it holds of the first label alone, and again once a label is settled and all its arcs are followed.
use Rattle.std.proofs.Common.{◌≡◌, ℕ, suc, ◌≤◌, true, false, List, [], ◌∷◌, length, refl, subst, inr, true≢false, arith, Some}
use Rattle.std.proofs.lemmas.Bool.{false≢true}
use Rattle.std.specs.List.{AllByRecursion}
use Rattle.streets.specs.Network.{Network}
use Rattle.costs.specs.Kind.{Kind, Lawful}
use Rattle.policies.specs.Automaton.{Automaton}
use Rattle.search_laws.specs.Search.{Label, find, put, settle, expand, arrives, departure}
use Rattle.search_laws.proofs.Pool.{some_same, count, all_find, is_at_self, length_put_known, count_put_settled}
use Rattle.search_laws.proofs.Choice.{leq_self, Least, Chosen}
use Rattle.search_laws.proofs.Walks.{all_in}
use Rattle.search_laws.proofs.Invariant.{Leads, Front, Inv, inv_put, inv_paid, Owes, Nothing, Expanded, expand_inv}

all_both : {X : Type 0} (A B C : X → Type 0) → ((x : X) → A x → B x → C x) → (xs : List X) → AllByRecursion A xs → AllByRecursion B xs → AllByRecursion C xs
all_both A B C f [] h k = tt
all_both A B C f (x ∷ xs) h k = (f x h.0 k.0, all_both A B C f xs h.1 k.1)

module _ {V : Type 0} (K : Kind V) (L : Lawful K) (N : Network) (P : Automaton) (start goal pool : ℕ) where
  -- between two settlings no arc is owed
  abbrev pub Between : V → List (Label V) → Type 0
  Between f rs = Inv K L N P start goal pool (Nothing K L N P start goal pool) f rs

  pub inv_departure : Between K.zero (departure K P start ∷ [])
  inv_departure = record {
    distinct = (refl, tt);
    leads = ((refl, refl, refl), tt);
    front = ((λ e. absurd (false≢true e), λ _. leq_self K L K.zero), tt);
    followed = (λ e. absurd (false≢true e), tt);
    begun = (departure K P start, rw (is_at_self (departure K P start)), leq_self K L K.zero);
  }

  -- the label m is settled, and its arcs are owed
  inv_settle : (f : V) (rs : List (Label V)) → Between f rs → (m : Label V) → m.settled ≡ false → Least K L m rs → find m.point m.word rs ≡ Some m →
      arrives P goal m ≡ false →
      Inv K L N P start goal pool (Owes K L N P start goal pool m (N.arcs m.point)) m.cost (put (settle m) rs)
  inv_settle f rs i m wait least found far =
      inv_put K L N P start goal pool _ m.cost rs (settle m)
      (inv_paid K L N P start goal pool _ _ m.cost rs (λ r a o. absurd o) moved)
      (λ s e. subst (λ x. K.leq m.cost x.cost ≡ true) (some_same found e) (leq_self K L m.cost))
      (all_find (Leads K L N P start goal pool) _ _ rs m found i.leads)
      (λ _. leq_self K L m.cost, λ e. absurd (true≢false e))
      (λ _. (far, λ a h. inr (refl, h)))
    where
      up : K.leq f m.cost ≡ true
      up = (all_find (Front K L N P start goal pool f) _ _ rs m found i.front).1 wait

      moved : Between m.cost rs
      moved = record {
        distinct = i.distinct;
        leads = i.leads;
        front = all_both _ _ (Front K L N P start goal pool m.cost) (λ r a b. (λ t. L.trans _ _ _ (a.0 t) up, b)) rs i.front least;
        followed = i.followed;
        begun = i.begun;
      }

  -- the chosen label m, which does not arrive, is settled, and all its arcs are followed
  pub inv_next : (f : V) (rs : List (Label V)) → Between f rs → length rs ≤ pool → (m : Label V) → Chosen K L rs (Some m) → arrives P goal m ≡ false →
      Expanded K L N P start goal pool m.cost (suc (count rs)) (expand K P pool m (N.arcs m.point) (put (settle m) rs))
  inv_next f rs i fits m h far =
      let found = h.2 i.distinct in
      subst (λ k. Expanded K L N P start goal pool m.cost k (expand K P pool m (N.arcs m.point) (put (settle m) rs)))
      (count_put_settled (settle m) rs m refl h.0 found)
      (expand_inv K L N P start goal pool m (all_find (Leads K L N P start goal pool) _ _ rs m found i.leads) (N.arcs m.point) (all_in _) (put (settle m) rs)
      (inv_settle f rs i m h.0 h.1 found far)
      (let long = length_put_known (settle m) rs m found in omega arith))
