-- Finding, putting and choosing among labels with links, as among labels with walks.
use Rattle.std.proofs.Common.{◌≡◌, ℕ, suc, ◌+◌, ◌<◌, Bool, false, cond, List, [], ◌∷◌, ◌++◌, length, get_or, set, Some, None, Option, sym, refl, ap, ◌∙◌, subst, arith}
use Rattle.std.proofs.lemmas.Bool.{cond-true, cond-false}
use Rattle.streets.specs.declared.arc.Arc.{Arc}
use Rattle.costs.specs.Kind.{Kind}
use Rattle.search_laws.specs.Search.{Label as Walked, is_at, find, put, sooner, pick, best}
use Rattle.search_laws.proofs.Pool.{on, is_at_where}
use Rattle.search.specs.declared.label.Label.{Label}
use Rattle.search.specs.Links.{walked, bare, place, prefer, first_from, first}
use Rattle.search.proofs.Strands.{Strand, rows, labels, place_from}

module _ {V : Type 0} where
  -- no label of a state: a new one goes behind all
  pub absent :
      (ps : List (Strand V)) (i : ℕ) (n : Walked V) → place_from i n.point n.word (rows ps) ≡ None →
      (find n.point n.word (labels ps) ≡ None) × (put n (labels ps) ≡ labels ps ++ (n ∷ []))
  absent [] i n e = (refl, refl)
  absent (q ∷ ps) i n e =
      on (is_at n.point n.word (bare q.0))
      (λ b.
      cond b (Some i) (place_from (i + 1) n.point n.word (rows ps)) ≡ None →
      (cond b (Some (walked q.0 q.1)) (find n.point n.word (labels ps)) ≡ None)
      × (cond b (n ∷ labels ps) (walked q.0 q.1 ∷ put n (labels ps)) ≡ walked q.0 q.1 ∷ (labels ps ++ (n ∷ []))))
      (λ _ h. cc)
      (λ _ h. let (f, p) = absent ps (i + 1) n h in (f, ap (λ l. walked q.0 q.1 ∷ l) p))
      e

  -- the label of a state, k places on
  pub record Spot (ps : List (Strand V)) (n : Walked V) (k : ℕ) : Type 0 where
    pub at : Strand V
    pub lower : k < length ps
    pub read : get_or ps k at ≡ at
    pub point : at.0.state.point ≡ n.point
    pub word : at.0.state.word ≡ n.word
    pub found : find n.point n.word (labels ps) ≡ Some (walked at.0 at.1)
    pub put_is : put n (labels ps) ≡ set (labels ps) k n

  pub present :
      (ps : List (Strand V)) (i j : ℕ) (n : Walked V) → place_from i n.point n.word (rows ps) ≡ Some j →
      (k : ℕ) × ((j ≡ i + k) × Spot ps n k)
  present [] i j n e = cc
  present (q ∷ ps) i j n e =
      on (is_at n.point n.word (bare q.0))
      (λ b.
      is_at n.point n.word (bare q.0) ≡ b →
      cond b (Some i) (place_from (i + 1) n.point n.word (rows ps)) ≡ Some j →
      (k : ℕ) × ((j ≡ i + k) × Spot (q ∷ ps) n k))
      (λ _ t h.
      let same = is_at_where n.point n.word (bare q.0) t in
      let here : i ≡ j = cc in (
        0,
        (
          omega arith,
          record {
            at = q;
            lower = omega arith;
            read = refl;
            point = sym same.0;
            word = sym same.1;
            found = cond-true _ _ _ t;
            put_is = cond-true _ _ _ t;
          },
        ),
      ))
      (λ _ t h.
      let (k, (is, s)) = present ps (i + 1) j n h in (
        suc k,
        (
          omega arith,
          record {
            at = s.at;
            lower = let l = s.lower in omega arith;
            read = s.read;
            point = s.point;
            word = s.word;
            found = cond-false _ _ _ t ∙ s.found;
            put_is = cond-false _ _ _ t ∙ ap (λ l. walked q.0 q.1 ∷ l) s.put_is;
          },
        ),
      ))
      refl
      e

  pub present_at : (ps : List (Strand V)) (j : ℕ) (n : Walked V) → place n.point n.word (rows ps) ≡ Some j → Spot ps n j
  present_at ps j n e =
      let (k, (is, s)) = present ps 0 j n e in
      let same : k ≡ j = omega arith in
      subst (λ (m : ℕ). Spot ps n m) same s

  -- what is chosen with links is chosen with walks
  pub record Chosen (K : Kind V) (ps : List (Strand V)) (k : ℕ) (x : Label V) (m : Walked V) : Type 0 where
    pub walk : List Arc
    pub lower : k < length ps
    pub read : get_or ps k (x, walk) ≡ (x, walk)
    pub waits : x.settled ≡ false
    pub is : m ≡ walked x walk

  abbrev pub Choice : Kind V → List (Strand V) → ℕ → Option (ℕ × Label V) → Option (Walked V) → Type 0
  Choice K ps i None None = Unit {0}
  Choice K ps i None (Some m) = ⊥
  Choice K ps i (Some s) None = ⊥
  Choice K ps i (Some s) (Some m) = (k : ℕ) × ((s.0 ≡ i + k) × Chosen K ps k s.1 m)

  here_chosen : (K : Kind V) (q : Strand V) (ps : List (Strand V)) (i : ℕ) → q.0.settled ≡ false → Choice K (q ∷ ps) i (Some (i, q.0)) (Some (walked q.0 q.1))
  here_chosen K q ps i w = (0, (omega arith, record { walk = q.1; lower = omega arith; read = refl; waits = w; is = refl }))

  later-chosen :
      (K : Kind V) (q : Strand V) (ps : List (Strand V)) (i : ℕ) (s : ℕ × Label V) (m : Walked V) →
      Choice K ps (i + 1) (Some s) (Some m) → Choice K (q ∷ ps) i (Some s) (Some m)
  later-chosen K q ps i s m (k, (is, c)) =
      (suc k, (omega arith, record { walk = c.walk; lower = let l = c.lower in omega arith; read = c.read; waits = c.waits; is = c.is }))

  prefer-pick :
      (K : Kind V) (q : Strand V) (ps : List (Strand V)) (i : ℕ) (o : Option (ℕ × Label V)) (p : Option (Walked V)) →
      Choice K ps (i + 1) o p → Choice K (q ∷ ps) i (prefer K i q.0 o) (pick K (walked q.0 q.1) p)
  prefer-pick K q ps i None None h =
      on q.0.settled (λ b. Choice K (q ∷ ps) i (cond b None (Some (i, q.0))) (cond b None (Some (walked q.0 q.1))))
      (λ _. tt) (λ w. here_chosen K q ps i w)
  prefer-pick K q ps i None (Some m) h = absurd h
  prefer-pick K q ps i (Some s) None h = absurd h
  prefer-pick K q ps i (Some s) (Some m) h =
      on q.0.settled
      (λ b.
      Choice K (q ∷ ps) i (cond b (Some s) (cond (sooner K (bare s.1) (bare q.0)) (Some s) (Some (i, q.0))))
      (cond b (Some m) (cond (sooner K m (walked q.0 q.1)) (Some m) (Some (walked q.0 q.1)))))
      (λ _. later-chosen K q ps i s m h)
      (λ w.
      subst
      (λ (b : Bool).
      Choice K (q ∷ ps) i (cond (sooner K (bare s.1) (bare q.0)) (Some s) (Some (i, q.0))) (cond b (Some m) (Some (walked q.0 q.1))))
      (sym (ap (λ (x : Walked V). sooner K x (walked q.0 q.1)) h.1.1.is))
      (on (sooner K (bare s.1) (bare q.0)) (λ b. Choice K (q ∷ ps) i (cond b (Some s) (Some (i, q.0))) (cond b (Some m) (Some (walked q.0 q.1))))
      (λ _. later-chosen K q ps i s m h) (λ _. here_chosen K q ps i w)))

  pub chosen_from : (K : Kind V) (ps : List (Strand V)) (i : ℕ) → Choice K ps i (first_from K i (rows ps)) (best K (labels ps))
  chosen_from K [] i = tt
  chosen_from K (q ∷ ps) i = prefer-pick K q ps i (first_from K (i + 1) (rows ps)) (best K (labels ps)) (chosen_from K ps (i + 1))

  none_chosen : (K : Kind V) (ps : List (Strand V)) (p : Option (Walked V)) → Choice K ps 0 None p → p ≡ None
  none_chosen K ps None h = refl
  none_chosen K ps (Some m) h = absurd h

  pub none_waits : (K : Kind V) (ps : List (Strand V)) → first K (rows ps) ≡ None → best K (labels ps) ≡ None
  none_waits K ps e =
      none_chosen K ps (best K (labels ps)) (subst (λ (o : Option (ℕ × Label V)). Choice K ps 0 o (best K (labels ps))) e (chosen_from K ps 0))

  one-chosen :
      (K : Kind V) (ps : List (Strand V)) (i : ℕ) (x : Label V) (p : Option (Walked V)) → Choice K ps 0 (Some (i, x)) p →
      (m : Walked V) × ((p ≡ Some m) × Chosen K ps i x m)
  one-chosen K ps i x None h = absurd h
  one-chosen K ps i x (Some m) (k, (is, c)) =
      let same : k ≡ i = omega arith in
      (m, (refl, subst (λ (n : ℕ). Chosen K ps n x m) same c))

  pub one-waits :
      (K : Kind V) (ps : List (Strand V)) (i : ℕ) (x : Label V) → first K (rows ps) ≡ Some (i, x) →
      (m : Walked V) × ((best K (labels ps) ≡ Some m) × Chosen K ps i x m)
  one-waits K ps i x e =
      one-chosen K ps i x (best K (labels ps)) (subst (λ (o : Option (ℕ × Label V)). Choice K ps 0 o (best K (labels ps))) e (chosen_from K ps 0))
