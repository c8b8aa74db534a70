-- What `best` chooses: a waiting label of least cost, or none where none waits.
use Rattle.std.proofs.Common.{◌≡◌, true, false, cond, List, [], ◌∷◌, sym, refl, subst₂, ⊎_elim, None, Some, Option}
use Rattle.std.specs.List.{AllByRecursion}
use Rattle.std.proofs.lemmas.Bool.{both_ways}
use Rattle.std.proofs.ByRecursion.{All-weaker}
use Rattle.costs.specs.Kind.{Kind, Lawful}
use Rattle.search_laws.specs.Search.{Label, is_at, find, smaller, sooner, pick, best}
use Rattle.search_laws.proofs.Pool.{on, none_some, Distinct, is_at_self, is_at_where}

module _ {V : Type 0} (K : Kind V) (L : Lawful K) where
  -- of two costs that do not compare one way, they do the other
  pub leq_turned : (u v : V) → K.leq u v ≡ false → K.leq v u ≡ true
  leq_turned u v e = ⊎_elim (λ h. absurd (both_ways _ e h)) (λ h. h) (L.total u v)

  pub leq_self : (v : V) → K.leq v v ≡ true
  leq_self v = ⊎_elim (λ h. h) (λ h. h) (L.total v v)

  sooner_leq : (s r : Label V) → sooner K s r ≡ true → K.leq s.cost r.cost ≡ true
  sooner_leq s r e =
      on (K.leq s.cost r.cost) (λ b. cond b (cond (K.leq r.cost s.cost) (smaller s r) true) false ≡ true → b ≡ true)
      (λ t e. refl)
      (λ t e. e)
      e

  later_leq : (s r : Label V) → sooner K s r ≡ false → K.leq r.cost s.cost ≡ true
  later_leq s r e =
      on (K.leq s.cost r.cost) (λ b. cond b (cond (K.leq r.cost s.cost) (smaller s r) true) false ≡ false → K.leq r.cost s.cost ≡ true)
      (λ t e. on (K.leq r.cost s.cost) (λ b. cond b (smaller s r) true ≡ false → b ≡ true) (λ u e. refl) (λ u e. sym e) e)
      (λ t e. leq_turned s.cost r.cost t)
      e

  -- m costs no more than any that waits
  abbrev pub Least : Label V → List (Label V) → Type 0
  Least m rs = AllByRecursion (λ r. r.settled ≡ false → K.leq m.cost r.cost ≡ true) rs

  abbrev pub Chosen : List (Label V) → Option (Label V) → Type 0
  Chosen rs None = AllByRecursion (λ r. r.settled ≡ true) rs
  Chosen rs (Some m) = (m.settled ≡ false) × Least m rs × (Distinct rs → find m.point m.word rs ≡ Some m)

  -- found among the later ones, so found
  found_later : (s r : Label V) (rs : List (Label V)) → (Distinct rs → find s.point s.word rs ≡ Some s) → Distinct (r ∷ rs) → find s.point s.word (r ∷ rs) ≡ Some s
  found_later s r rs f d =
      on (is_at s.point s.word r) (λ b. cond b (Some r) (find s.point s.word rs) ≡ Some s)
      (λ t.
      let at = is_at_where s.point s.word r t in
      none_some d.0 (subst₂ (λ x y. find x y rs ≡ Some s) at.0 at.1 (f d.1)))
      (λ t. f d.1)

  step : (r : Label V) (rs : List (Label V)) (o : Option (Label V)) → Chosen rs o → Chosen (r ∷ rs) (pick K r o)
  step r rs None h =
      on r.settled (λ b. Chosen (r ∷ rs) (cond b None (Some r)))
      (λ t. (t, h))
      (λ t. (t, (λ _. leq_self r.cost, All-weaker _ _ (λ s u w. absurd (both_ways _ w u)) rs h), λ d. rw (is_at_self r)))
  step r rs (Some s) h =
      on r.settled (λ b. Chosen (r ∷ rs) (cond b (Some s) (cond (sooner K s r) (Some s) (Some r))))
      (λ t. (h.0, (λ w. absurd (both_ways _ w t), h.1), found_later s r rs h.2))
      (λ t.
      on (sooner K s r) (λ b. Chosen (r ∷ rs) (cond b (Some s) (Some r)))
      (λ u. (h.0, (λ _. sooner_leq s r u, h.1), found_later s r rs h.2))
      (λ u. (t, (λ _. leq_self r.cost, All-weaker _ _ (λ x l w. L.trans _ _ _ (later_leq s r u) (l w)) rs h.1), λ d. rw (is_at_self r))))

  pub chosen : (rs : List (Label V)) → Chosen rs (best K rs)
  chosen [] = tt
  chosen (r ∷ rs) = step r rs (best K rs) (chosen rs)
