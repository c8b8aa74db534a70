-- The search's answer is right: along every permitted walk some label waits that costs no more, so the first label to arrive costs least of all.
use Rattle.std.proofs.Common.{◌≡◌, ℕ, zero, suc, ◌+◌, ◌≤◌, true, false, eqb, ◌⊎◌, List, [], ◌∷◌, length, sym, refl, ◌∙◌, subst, ⊎_elim, arith, None, Some, Option}
use Rattle.std.specs.List.{AllByRecursion}
use Rattle.std.proofs.lemmas.Bool.{both_ways, and_parts, and_from, eqb-true, eq-eqb}
use Rattle.streets.specs.declared.arc.Arc.{Arc}
use Rattle.streets.specs.Network.{Network}
use Rattle.costs.specs.Kind.{Kind, Lawful as LawfulCost}
use Rattle.costs.specs.Walk.{cost_from, cost_of}
use Rattle.policies.specs.declared.step.Step.{Step}
use Rattle.policies.specs.Automaton.{Automaton, Lawful as LawfulPolicy}
use Rattle.search_laws.specs.Walks.{In, Walk, steps, word_after, Permitted}
use Rattle.search_laws.specs.Search.{Label, Outcome, find, put, settle, best, expand, arrives, resume, visit, turn, run, departure, search}
use Rattle.search_laws.specs.Right.{Right}
use Rattle.search_laws.proofs.Pool.{on, count, find_where, all_find, all_settled}
use Rattle.search_laws.proofs.Choice.{Least, Chosen, chosen}
use Rattle.search_laws.proofs.Walks.{cost_grows, final_walk}
use Rattle.search_laws.proofs.Invariant.{Leads, Reached, Led, Followed, Nothing, Expanded}
use Rattle.search_laws.proofs.Settling.{Between, inv_next, inv_departure}

module _ {V : Type 0} (K : Kind V) (L : LawfulCost K) (N : Network) (P : Automaton) (Permits : ℕ → List Step → Type 0) (M : LawfulPolicy P Permits) (start goal pool : ℕ) where
  abbrev I : V → List (Label V) → Type 0
  I = Between K L N P start goal pool

  -- a label that waits, and costs at most v
  abbrev Waits : List (Label V) → V → Type 0
  Waits rs v = (q : ℕ) × (x : ℕ) × (r : Label V) × (find q x rs ≡ Some r) × (r.settled ≡ false) × (K.leq r.cost v ≡ true)

  -- along a walk that goes on to the goal from a state that was reached, the first label that waits costs at most the whole walk
  frontier : (f : V) (rs : List (Label V)) → I f rs → (bs : List Arc) (p w : ℕ) (v : V) → Reached K L N P start goal pool rs p w v →
      Walk N p bs goal → P.ends (word_after P w bs) goal ≡ true → Waits rs (cost_from K v bs)
  frontier f rs i [] p w v h e ends =
      on h.0.settled (λ b. Waits rs v)
      (λ t.
      let at = find_where p w rs h.0 h.1 in
      absurd (both_ways (arrives P goal h.0)
      (all_find (Followed K L N P start goal pool (Nothing K L N P start goal pool) rs) p w rs h.0 h.1 i.followed t).0
      (and_from _ _ (eq-eqb h.0.point goal (sym at.0 ∙ e)) (subst (λ x. P.ends x goal ≡ true) at.1 ends))))
      (λ t. (p, w, h.0, h.1, t, h.2))
  frontier f rs i (a ∷ bs) p w v h walk ends =
      on h.0.settled (λ b. Waits rs (cost_from K v (a ∷ bs)))
      (λ t.
      let at = find_where p w rs h.0 h.1 in
      let led : Led K L N P start goal pool rs h.0 a ⊎ ⊥ =
      (all_find (Followed K L N P start goal pool (Nothing K L N P start goal pool) rs) p w rs h.0 h.1 i.followed t).1 a
      (subst (λ x. In a (N.arcs x)) at.0 walk.0)
      in
      let there : Led K L N P start goal pool rs h.0 a = ⊎_elim (λ x. x) (λ x. absurd x) led in
      frontier f rs i bs a.head (P.cross w a.number a.head) (K.plus v a.weight) (
        there.0,
        subst (λ x. find a.head (P.cross x a.number a.head) rs ≡ Some there.0) (sym at.1) there.1,
        L.trans _ _ _ there.2 (L.keeps _ _ a.weight h.2),
      )
      walk.1 ends)
      (λ t. (p, w, h.0, h.1, t, L.trans _ _ _ h.2 (cost_grows K L v (a ∷ bs))))

  -- a walk is permitted exactly when its word may end at the goal
  may_end : (cs : List Arc) → Walk N start cs goal → Permits start (steps cs) → P.ends (word_after P (P.depart start) cs) goal ≡ true
  may_end cs w h = subst (λ q. P.ends (word_after P (P.depart start) cs) q ≡ true) (final_walk N start cs goal w) (M.every start (steps cs) h)

  permitted : (cs : List Arc) → Walk N start cs goal → P.ends (word_after P (P.depart start) cs) goal ≡ true → Permitted N Permits start goal cs
  permitted cs w h = (w, M.only start (steps cs) (subst (λ q. P.ends (word_after P (P.depart start) cs) q ≡ true) (sym (final_walk N start cs goal w)) h))

  -- for any permitted walk, a label waits that costs at most as much
  ahead : (f : V) (rs : List (Label V)) → I f rs → (cs : List Arc) → Permitted N Permits start goal cs → Waits rs (cost_of K cs)
  ahead f rs i cs h = frontier f rs i cs start (P.depart start) K.zero i.begun h.0 (may_end cs h.0 h.1)

  -- where none waits, no walk is permitted
  no_route : (f : V) (rs : List (Label V)) → I f rs → AllByRecursion (λ r. r.settled ≡ true) rs → (cs : List Arc) → Permitted N Permits start goal cs → ⊥
  no_route f rs i h cs p =
      let w = ahead f rs i cs p in
      both_ways w.2.settled w.4 (all_find (λ r. r.settled ≡ true) w.0 w.1 rs w.2 w.3 h)

  -- the label m, which waits and costs least, ends a tour
  tour : (f : V) (rs : List (Label V)) → I f rs → (m : Label V) → Least K L m rs → find m.point m.word rs ≡ Some m → arrives P goal m ≡ true → (t : ℕ) →
      Right N K P Permits start goal pool (Outcome.Tour m.cost m.walk t)
  tour f rs i m least found here t =
      let s = all_find (Leads K L N P start goal pool) _ _ rs m found i.leads in
      let both = and_parts (eqb m.point goal) (P.ends m.word goal) here in (
        permitted m.walk (subst (λ x. Walk N start m.walk x) (eqb-true m.point goal both.0) s.0) (subst (λ x. P.ends x goal ≡ true) (sym s.1) both.1),
        sym s.2,
        λ cs p.
            let w = ahead f rs i cs p in
            L.trans _ _ _ (all_find (λ r. r.settled ≡ false → K.leq m.cost r.cost ≡ true) w.0 w.1 rs w.2 w.3 least w.4) w.5,
      )

  -- from any pool that keeps the invariant, with fuel for each label that is not settled
  right_run : (fuel t : ℕ) (f : V) (rs : List (Label V)) → I f rs → length rs ≤ pool → count rs + fuel ≡ pool → Right N K P Permits start goal pool (run N K P goal pool fuel t rs)
  right_run zero t f rs i fits e = no_route f rs i (all_settled rs (omega arith))
  right_run (suc fuel) t f rs i fits e = go (best K rs) (chosen K L rs) (λ g ss. right_run fuel (suc t) g ss)
    where
      on_goes : Label V → Outcome V
      on_goes m = resume (suc t) (run N K P goal pool fuel (suc t)) (expand K P pool m (N.arcs m.point) (put (settle m) rs))

      Later : Type 0
      Later = (g : V) (ss : List (Label V)) → I g ss → length ss ≤ pool → count ss + fuel ≡ pool → Right N K P Permits start goal pool (run N K P goal pool fuel (suc t) ss)

      follow : (m : Label V) (o : Option (List (Label V))) → Expanded K L N P start goal pool m.cost (suc (count rs)) o → Later →
          Right N K P Permits start goal pool (resume (suc t) (run N K P goal pool fuel (suc t)) o)
      follow m None g later = g
      follow m (Some ss) g later = later m.cost ss g.0 g.1 (let c = g.2 in omega arith)

      go : (o : Option (Label V)) → Chosen K L rs o → Later → Right N K P Permits start goal pool (turn t (λ m. visit m (suc t) on_goes (arrives P goal m)) o)
      go None h later = no_route f rs i h
      go (Some m) h later =
          let found = h.2 i.distinct in
          on (arrives P goal m) (λ b. Right N K P Permits start goal pool (visit m (suc t) on_goes b))
          (λ u. tour f rs i m h.1 found u (suc t))
          (λ u.
          follow m (expand K P pool m (N.arcs m.point) (put (settle m) rs)) (inv_next K L N P start goal pool f rs i fits m h u)
          later)

-- The search's answer is right, from the laws of costs and of policies alone.
pub search_right : {V : Type 0} (K : Kind V) → LawfulCost K → (N : Network) (P : Automaton) (Permits : ℕ → List Step → Type 0) → LawfulPolicy P Permits →
    (start goal pool : ℕ) → Right N K P Permits start goal pool (search N K P start goal pool)
search_right K L N P Permits M start goal zero = ((start, P.depart start) ∷ [], refl, (λ h. h, tt), (([], refl, refl), tt))
search_right K L N P Permits M start goal (suc pool) =
    right_run K L N P Permits M start goal (suc pool) (suc pool) 0 K.zero (departure K P start ∷ []) (inv_departure K L N P start goal (suc pool)) (omega arith) (omega arith)
