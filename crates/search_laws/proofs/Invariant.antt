-- What holds of the pool whenever the search has followed all arcs of the settled labels, and while it follows those of the last one.
use Rattle.std.proofs.Common.{◌≡◌, ℕ, ◌≤◌, true, false, cond, ltb, ◌⊎◌, List, [], ◌∷◌, map, length, sym, refl, ap, ◌∙◌, subst, subst₂, inl, inr, ⊎_elim, arith, None, Some, Option}
use Rattle.std.specs.List.{AllByRecursion}
use Rattle.std.proofs.lemmas.Bool.{both_ways, ltb-true, ltb-false}
use Rattle.std.proofs.ByRecursion.{All-weaker, All-map}
use Rattle.std.proofs.lemmas.List.{length-map}
use Rattle.streets.specs.declared.arc.Arc.{Arc}
use Rattle.streets.specs.Network.{Network}
use Rattle.costs.specs.Kind.{Kind, Lawful}
use Rattle.costs.specs.Walk.{cost_of}
use Rattle.policies.specs.Automaton.{Automaton}
use Rattle.search_laws.specs.Walks.{In, Walk, word_after}
use Rattle.search_laws.specs.Search.{Label, is_at, find, put, settle, relaxed, offer, onward, chain, expand, arrives}
use Rattle.search_laws.specs.Right.{Reachable, Crowded}
use Rattle.search_laws.proofs.Pool.{state_of, apart_states, on, none_some, some_same, count, Distinct, all_find, all_put, find_put_same, find_put_other, distinct_put, is_at_where, length_put_new, length_put_known, count_put_new, count_put_known}
use Rattle.search_laws.proofs.Choice.{leq_self, leq_turned}
use Rattle.search_laws.proofs.Walks.{walk_push, word_push, cost_push}

module _ {V : Type 0} (K : Kind V) (L : Lawful K) (N : Network) (P : Automaton) (start goal pool : ℕ) where
  -- the label's walk leads from start to its state, at its cost
  abbrev pub Leads : Label V → Type 0
  Leads r = Walk N start r.walk r.point × (word_after P (P.depart start) r.walk ≡ r.word) × (cost_of K r.walk ≡ r.cost)

  -- there is a label of the state, and it costs at most v
  abbrev pub Reached : List (Label V) → ℕ → ℕ → V → Type 0
  Reached rs p w v = (s : Label V) × (find p w rs ≡ Some s) × (K.leq s.cost v ≡ true)

  -- the arc a was followed from the label r
  abbrev pub Led : List (Label V) → Label V → Arc → Type 0
  Led rs r a = Reached rs a.head (P.cross r.word a.number a.head) (K.plus r.cost a.weight)

  -- what cost the search has come to: f is between the settled labels and those that wait
  abbrev pub Front : V → Label V → Type 0
  Front f r = (r.settled ≡ true → K.leq r.cost f ≡ true) × (r.settled ≡ false → K.leq f r.cost ≡ true)

  -- a settled label is no end of a tour, and each of its arcs was followed, or is owed yet
  abbrev pub Followed : (Label V → Arc → Type 0) → List (Label V) → Label V → Type 0
  Followed Owed rs r = r.settled ≡ true → (arrives P goal r ≡ false) × ((a : Arc) → In a (N.arcs r.point) → Led rs r a ⊎ Owed r a)

  pub record Inv (Owed : Label V → Arc → Type 0) (f : V) (rs : List (Label V)) : Type 0 where
    pub distinct : Distinct rs
    pub leads : AllByRecursion Leads rs
    pub front : AllByRecursion (Front f) rs
    pub followed : AllByRecursion (Followed Owed rs) rs
    pub begun : Reached rs start (P.depart start) K.zero

  -- the label n costs at most what the one of its state costs, if there is one
  abbrev pub Lower : Label V → List (Label V) → Type 0
  Lower n rs = (s : Label V) → find n.point n.word rs ≡ Some s → K.leq n.cost s.cost ≡ true

  pub reached_put : (n : Label V) (rs : List (Label V)) → Lower n rs → (p w : ℕ) (v : V) → Reached rs p w v → Reached (put n rs) p w v
  reached_put n rs low p w v h =
      on (is_at p w n) (λ b. Reached (put n rs) p w v)
      (λ t.
      let at = is_at_where p w n t in (
        n,
        subst₂ (λ x y. find x y (put n rs) ≡ Some n) (sym at.0) (sym at.1) (find_put_same n rs),
        L.trans _ _ _ (low h.0 (subst₂ (λ x y. find x y rs ≡ Some h.0) at.0 at.1 h.1)) h.2,
      ))
      (λ t. (h.0, find_put_other p w n rs t ∙ h.1, h.2))

  -- one label is put in place
  pub inv_put : (Owed : Label V → Arc → Type 0) (f : V) (rs : List (Label V)) (n : Label V) → Inv Owed f rs → Lower n rs → Leads n → Front f n →
      Followed Owed (put n rs) n → Inv Owed f (put n rs)
  inv_put Owed f rs n i low s fr fo = record {
    distinct = distinct_put n rs i.distinct;
    leads = all_put Leads n rs s i.leads;
    front = all_put (Front f) n rs fr i.front;
    followed = all_put (Followed Owed (put n rs)) n rs fo (All-weaker _ _ (λ r h t. ((h t).0, λ a m. more r a ((h t).1 a m))) rs i.followed);
    begun = reached_put n rs low _ _ _ i.begun;
  }
    where
      more : (r : Label V) (a : Arc) → Led rs r a ⊎ Owed r a → Led (put n rs) r a ⊎ Owed r a
      more r a (inl h) = inl (reached_put n rs low _ _ _ h)
      more r a (inr h) = inr h

  -- less is owed
  pub inv_paid : (Owed Owed' : Label V → Arc → Type 0) (f : V) (rs : List (Label V)) → ((r : Label V) (a : Arc) → Owed r a → Led rs r a ⊎ Owed' r a) →
      Inv Owed f rs → Inv Owed' f rs
  inv_paid Owed Owed' f rs pay i = record {
    distinct = i.distinct;
    leads = i.leads;
    front = i.front;
    followed = All-weaker _ _ (λ r h t. ((h t).0, λ a m. ⊎_elim inl (pay r a) ((h t).1 a m))) rs i.followed;
    begun = i.begun;
  }

  -- after an offer, if the pool had room for it
  abbrev pub Offered : (Label V → Arc → Type 0) → V → List (Label V) → Label V → Option (List (Label V)) → Type 0
  Offered Owed f rs n None = Crowded N P start pool
  Offered Owed f rs n (Some ss) = Inv Owed f ss × Reached ss n.point n.word n.cost × (length ss ≤ pool) × (count ss ≡ count rs)

  pub offered : (Owed : Label V → Arc → Type 0) (f : V) (rs : List (Label V)) (n : Label V) → Inv Owed f rs → length rs ≤ pool →
      Leads n → n.settled ≡ false → K.leq f n.cost ≡ true → Offered Owed f rs n (offer K pool n rs)
  offered Owed f rs n i fits s w l = go (find n.point n.word rs) refl
    where
      waits : Followed Owed (put n rs) n
      waits t = absurd (both_ways _ w t)

      fr : Front f n
      fr = (λ t. absurd (both_ways _ w t), λ _. l)

      here : Reached (put n rs) n.point n.word n.cost
      here = (n, find_put_same n rs, leq_self K L n.cost)

      go : (o : Option (Label V)) → find n.point n.word rs ≡ o → Offered Owed f rs n (relaxed K pool n rs o)
      go None e =
          on (ltb (length rs) pool) (λ b. Offered Owed f rs n (cond b (Some (put n rs)) None))
          (λ t. (
            inv_put Owed f rs n i (λ s' e'. none_some e e') s fr waits,
            here,
            (let long = length_put_new n rs e in let room = ltb-true (length rs) pool t in omega arith),
            count_put_new n rs w e,
          ))
          (λ t.
          let long = ltb-false (length rs) pool t in
          let same = length-map rs state_of in (
            map state_of (n ∷ rs),
            omega arith,
            apart_states (n ∷ rs) (e, i.distinct),
            All-map (Reachable N P start) state_of (n ∷ rs) (All-weaker Leads _ (λ r h. (r.walk, h.0, h.1)) (n ∷ rs) (s, i.leads)),
          ))
      go (Some r) e =
          on r.settled (λ b. Offered Owed f rs n (Some (cond b rs (cond (K.leq r.cost n.cost) rs (put n rs)))))
          (λ t. (i, (r, e, L.trans _ _ _ ((all_find (Front f) _ _ rs r e i.front).0 t) l), fits, refl))
          (λ t.
          on (K.leq r.cost n.cost) (λ b. Offered Owed f rs n (Some (cond b rs (put n rs))))
          (λ u. (i, (r, e, u), fits, refl))
          (λ u. (
            inv_put Owed f rs n i
                (λ s' e'. subst (λ x. K.leq n.cost x.cost ≡ true) (some_same e e') (leq_turned K L r.cost n.cost u)) s fr waits,
            here,
            (let long = length_put_known n rs r e in omega arith),
            count_put_known n rs r w t e,
          )))

  -- what is owed while the arcs of the label m are followed: those of the list bs
  abbrev pub Owes : Label V → List Arc → Label V → Arc → Type 0
  Owes m bs r a = (r ≡ settle m) × In a bs

  abbrev pub Nothing : Label V → Arc → Type 0
  Nothing r a = ⊥

  abbrev pub Expanded : V → ℕ → Option (List (Label V)) → Type 0
  Expanded f t None = Crowded N P start pool
  Expanded f t (Some ss) = Inv Nothing f ss × (length ss ≤ pool) × (count ss ≡ t)

  leads_onward : (m : Label V) (a : Arc) → Leads m → In a (N.arcs m.point) → Leads (onward K P m a)
  leads_onward m a s h = (
    walk_push N start m.walk m.point a s.0 h,
    word_push P (P.depart start) m.walk a ∙ ap (λ x. P.cross x a.number a.head) s.1,
    cost_push K K.zero m.walk a ∙ ap (λ x. K.plus x a.weight) s.2,
  )

  -- all arcs of m are followed
  pub expand_inv : (m : Label V) → Leads m → (bs : List Arc) → AllByRecursion (λ a. In a (N.arcs m.point)) bs → (rs : List (Label V)) →
      Inv (Owes m bs) m.cost rs → length rs ≤ pool → Expanded m.cost (count rs) (expand K P pool m bs rs)
  expand_inv m s [] h rs i fits = (inv_paid _ _ _ rs (λ r a o. inr o.1) i, fits, refl)
  expand_inv m s (a ∷ bs) h rs i fits =
      go (offer K pool (onward K P m a) rs)
      (offered (Owes m (a ∷ bs)) m.cost rs (onward K P m a) i fits (leads_onward m a s h.0) refl (L.grows m.cost a.weight))
      (λ ss. expand_inv m s bs h.1 ss)
    where
      pay : (ss : List (Label V)) → Led ss m a → (r : Label V) (b : Arc) → Owes m (a ∷ bs) r b → Led ss r b ⊎ Owes m bs r b
      pay ss led r b o =
          ⊎_elim (λ e. inl (subst₂ (λ x y. Led ss x y) (sym o.0) (sym e) led)) (λ h. inr (o.0, h)) o.1

      go : (o : Option (List (Label V))) → Offered (Owes m (a ∷ bs)) m.cost rs (onward K P m a) o →
          ((ss : List (Label V)) → Inv (Owes m bs) m.cost ss → length ss ≤ pool → Expanded m.cost (count ss) (expand K P pool m bs ss)) →
          Expanded m.cost (count rs) (chain o (λ ss. expand K P pool m bs ss))
      go None g later = g
      go (Some ss) g later =
          subst (λ t. Expanded m.cost t (expand K P pool m bs ss)) g.3
          (later ss (inv_paid _ _ _ ss (pay ss g.1) g.0) g.2)
