-- A label that is put in, settled or made keeps the labels in use sound.
use Rattle.std.proofs.Common.{◌≡◌, ℕ, zero, suc, ◌+◌, ◌<◌, ◌≤◌, false, cond, ◌&&◌, ◌||◌, eqb, ltb, ◌≢◌, List, [], ◌∷◌, ◌++◌, length, get_or, set, Some, None, Option, sym, refl, ap, ◌∙◌, subst, ap₂, inl, inr, ⊎_elim, arith, length-append, length-set, get_or-set_other, get_or-set_same}
use Rattle.std.proofs.lemmas.List.{length-map}
use Rattle.std.proofs.lemmas.Bool.{both_ways, cases_eq, cond-true}
use Rattle.std.proofs.lemmas.List.{map-set, map_push, get_or-map, get_or_push, get_or_default, get_or_append_left, length_push}
use Rattle.std.proofs.ByRecursion.{All-set, All-push, All-weaker, All-get_or}
use Rattle.streets.specs.declared.arc.Arc.{Arc}
use Rattle.costs.specs.Kind.{Kind}
use Rattle.search_laws.specs.Search.{Label as Walked, is_at, put, offer, relaxed as relaxed_walks, best, settle as settle_walk}
use Rattle.search_laws.proofs.Pool.{on, is_at_self}
use Rattle.search.specs.declared.label.Label.{Label}
use Rattle.search.specs.Links.{walked, bare, place, first, stays, offered, relaxed, settle}
use Rattle.search.proofs.Strands.{Strand, rows, labels, place_from, Behind, Right, Sound, Keeps}
use Rattle.search.proofs.Finds.{absent, present_at, Spot, one-waits}

module _ {V : Type 0} where
  -- a label of the same state in the place of another leaves every place as it was
  place_set :
      (p w : ℕ) (xs : List (Label V)) (i j : ℕ) (x : Label V) → x.state.point ≡ (get_or xs j x).state.point → x.state.word ≡ (get_or xs j x).state.word →
      place_from i p w (set xs j x) ≡ place_from i p w xs
  place_set p w [] i j x a b = refl
  place_set p w (y ∷ xs) i zero x a b = ap₂ (λ m n. cond (eqb p m && eqb w n) (Some i) (place_from (i + 1) p w xs)) a b
  place_set p w (y ∷ xs) i (suc j) x a b = ap (cond (is_at p w (bare y)) (Some i)) (place_set p w xs (i + 1) j x a b)

  place_before : (p w : ℕ) (xs ys : List (Label V)) (i j : ℕ) → place_from i p w xs ≡ Some j → place_from i p w (xs ++ ys) ≡ Some j
  place_before p w [] ys i j e = cc
  place_before p w (x ∷ xs) ys i j e =
      on (is_at p w (bare x)) (λ b. cond b (Some i) (place_from (i + 1) p w xs) ≡ Some j → cond b (Some i) (place_from (i + 1) p w (xs ++ ys)) ≡ Some j)
      (λ _ h. h)
      (λ _ h. place_before p w xs ys (i + 1) j h)
      e

  pub place-last :
      (xs : List (Label V)) (i : ℕ) (x : Label V) → place_from i x.state.point x.state.word xs ≡ None →
      place_from i x.state.point x.state.word (xs ++ (x ∷ [])) ≡ Some (i + length xs)
  place-last [] i x e =
      let here : i ≡ i + 0 = omega arith in
      cond-true _ _ _ (is_at_self (bare x)) ∙ ap Some here
  place-last (y ∷ xs) i x e =
      on (is_at x.state.point x.state.word (bare y))
      (λ b.
      cond b (Some i) (place_from (i + 1) x.state.point x.state.word xs) ≡ None →
      cond b (Some i) (place_from (i + 1) x.state.point x.state.word (xs ++ (x ∷ []))) ≡ Some (i + suc (length xs)))
      (λ _ h. cc)
      (λ _ h. let more : i + 1 + length xs ≡ i + suc (length xs) = omega arith in place-last xs (i + 1) x h ∙ ap Some more)
      e

  keeps_same : (ps : List (Strand V)) → Keeps ps ps
  keeps_same ps i q lt read done = (lt, read)

  keeps_set : (ps : List (Strand V)) (j : ℕ) (old y : Strand V) → j < length ps → get_or ps j old ≡ old → old.0.settled ≡ false → Keeps ps (set ps j y)
  keeps_set ps j old y low was waits i q lt read done = (
    simp length-set lt,
    ⊎_elim
        (λ (e : i ≡ j).
        let same : old ≡ q = sym was ∙ get_or_default ps j old q low ∙ ap (λ k. get_or ps k q) (sym e) ∙ read in
        absurd (both_ways q.0.settled (ap (λ (s : Strand V). s.0.settled) (sym same) ∙ waits) done))
        (λ (ne : i ≢ j). get_or-set_other ps j i y q ne ∙ read)
        (cases_eq i j),
  )

  keeps_push : (ps : List (Strand V)) (y : Strand V) → Keeps ps (ps ++ (y ∷ []))
  keeps_push ps y i q lt read done = (simp length-append (omega arith), get_or_append_left ps (y ∷ []) q i lt ∙ read)

  behind_kept : (ps qs : List (Strand V)) (q : Strand V) → Keeps ps qs → Behind ps q → Behind qs q
  behind_kept ps qs q keeps b =
      let (low, read) = keeps q.0.parent b.from b.lower b.read b.done in
      record { from = b.from; by = b.by; lower = low; read = read; done = b.done; walk = b.walk; number = b.number }

  right_kept : (ps qs : List (Strand V)) (t u : ℕ) (q : Strand V) → t ≤ u → Keeps ps qs → Right ps t q → Right qs u q
  right_kept ps qs t u q le keeps r =
      record {
        hops = r.hops;
        few = let f = r.few in omega arith;
        fewer = λ e. let f = r.fewer e in omega arith;
        reached = ⊎_elim (λ none. inl none) (λ b. inr (behind_kept ps qs q keeps b)) r.reached;
      }

  module _ (ps : List (Strand V)) (t u : ℕ) (sound : Sound ps t) (le : t ≤ u) (j : ℕ) (old y : Strand V) (low : j < length ps) (was : get_or ps j old ≡ old) (waits : old.0.settled ≡ false) (point : y.0.state.point ≡ old.0.state.point) (word : y.0.state.word ≡ old.0.state.word) where
    stood : get_or (rows ps) j y.0 ≡ old.0
    stood = get_or-map (λ q. q.0) ps j old y.0 low ∙ ap (λ (q : Strand V). q.0) was

    same_places : (p w : ℕ) → place p w (rows (set ps j y)) ≡ place p w (rows ps)
    same_places p w =
        ap (place p w) (map-set (λ q. q.0) ps j y)
        ∙ place_set p w (rows ps) 0 j y.0 (point ∙ ap (λ (x : Label V). x.state.point) (sym stood)) (word ∙ ap (λ (x : Label V). x.state.word) (sym stood))

    set_own : (i : ℕ) (q : Strand V) → i < length (set ps j y) → get_or (set ps j y) i q ≡ q → place q.0.state.point q.0.state.word (rows (set ps j y)) ≡ Some i
    set_own i q lt read =
        same_places q.0.state.point q.0.state.word
        ∙ ⊎_elim
        (λ (e : i ≡ j).
        let is : y ≡ q = sym (get_or-set_same ps j y q low) ∙ ap (λ k. get_or (set ps j y) k q) (sym e) ∙ read in
        ap₂ (λ a b. place a b (rows ps)) (ap (λ (s : Strand V). s.0.state.point) (sym is) ∙ point) (ap (λ (s : Strand V). s.0.state.word) (sym is) ∙ word)
        ∙ sound.own j old low was
        ∙ ap Some (sym e))
        (λ (ne : i ≢ j). sound.own i q (simp length-set at lt) (sym (get_or-set_other ps j i y q ne) ∙ read))
        (cases_eq i j)

    pub sound_set : Right (set ps j y) u y → Sound (set ps j y) u
    sound_set r =
        record {
          own = set_own;
          each =
              All-set (Right (set ps j y) u) ps j y r
              (All-weaker (Right ps t) (Right (set ps j y) u) (λ q h. right_kept ps (set ps j y) t u q le (keeps_set ps j old y low was waits) h) ps sound.each);
        }

  module _ (ps : List (Strand V)) (t : ℕ) (sound : Sound ps t) (y : Strand V) (new : place y.0.state.point y.0.state.word (rows ps) ≡ None) where
    push_own : (i : ℕ) (q : Strand V) → i < length (ps ++ (y ∷ [])) → get_or (ps ++ (y ∷ [])) i q ≡ q → place q.0.state.point q.0.state.word (rows (ps ++ (y ∷ []))) ≡ Some i
    push_own i q lt read =
        ap (place q.0.state.point q.0.state.word) (map_push (λ s. s.0) ps y)
        ∙ ⊎_elim
        (λ (e : i ≡ length ps).
        let is : y ≡ q = sym (get_or_push ps y q i (sym e)) ∙ read in
        ap (λ (s : Strand V). place s.0.state.point s.0.state.word (rows ps ++ (y.0 ∷ []))) (sym is)
        ∙ place-last (rows ps) 0 y.0 new
        ∙ ap Some (let len = length-map ps (λ (s : Strand V). s.0) in omega arith))
        (λ (ne : i ≢ length ps).
        let before : i < length ps = let len = length_push ps y in omega arith in
        place_before q.0.state.point q.0.state.word (rows ps) (y.0 ∷ []) 0 i (sound.own i q before (sym (get_or_append_left ps (y ∷ []) q i before) ∙ read)))
        (cases_eq i (length ps))

    pub sound_push : Right (ps ++ (y ∷ [])) t y → Sound (ps ++ (y ∷ [])) t
    sound_push r =
        record {
          own = push_own;
          each =
              All-push (Right (ps ++ (y ∷ [])) t) ps y
              (All-weaker (Right ps t) (Right (ps ++ (y ∷ [])) t) (λ q h. right_kept ps (ps ++ (y ∷ [])) t t q (omega arith) (keeps_push ps y) h) ps sound.each)
              r;
        }

  -- what an offer leaves with links is what it leaves with walks
  abbrev pub Offered : List (Strand V) → ℕ → Option (List (Label V)) → Option (List (Walked V)) → Type 0
  Offered ps t None None = Unit {0}
  Offered ps t None (Some rs) = ⊥
  Offered ps t (Some xs) None = ⊥
  Offered ps t (Some xs) (Some rs) = (qs : List (Strand V)) × ((xs ≡ rows qs) × ((rs ≡ labels qs) × (Sound qs t × Keeps ps qs)))

  module _ (K : Kind V) (pool : ℕ) (ps : List (Strand V)) (t : ℕ) (sound : Sound ps t) (q : Strand V) (waits : q.0.settled ≡ false) (right : Right ps t q) where
    abbrev n : Walked V
    n = walked q.0 q.1

    stayed : Offered ps t (Some (rows ps)) (Some (labels ps))
    stayed = (ps, (refl, (refl, (sound, keeps_same ps))))

    made : place q.0.state.point q.0.state.word (rows ps) ≡ None → Offered ps t (Some (rows ps ++ (q.0 ∷ []))) (Some (labels ps ++ (n ∷ [])))
    made new = (
      ps ++ (q ∷ []),
      (
        sym (map_push (λ s. s.0) ps q),
        (
          sym (map_push (λ s. walked s.0 s.1) ps q),
          (sound_push ps t sound q new (right_kept ps (ps ++ (q ∷ [])) t t q (omega arith) (keeps_push ps q) right), keeps_push ps q),
        ),
      ),
    )

    replaced : (j : ℕ) (s : Spot ps n j) → s.at.0.settled ≡ false → Offered ps t (Some (set (rows ps) j q.0)) (Some (set (labels ps) j n))
    replaced j s open' =
        let keeps = keeps_set ps j s.at q s.lower s.read open' in (
          set ps j q,
          (
            sym (map-set (λ s. s.0) ps j q),
            (
              sym (map-set (λ s. walked s.0 s.1) ps j q),
              (
                sound_set ps t t sound (omega arith) j s.at q s.lower s.read open' (sym s.point) (sym s.word) (right_kept ps (set ps j q) t t q (omega arith) keeps right),
                keeps,
              ),
            ),
          ),
        )

    offer_at : (o : Option ℕ) → place q.0.state.point q.0.state.word (rows ps) ≡ o → Offered ps t (offered K pool q.0 (rows ps) o) (offer K pool n (labels ps))
    offer_at None e =
        let (f, p) = absent ps 0 n e in
        let P : ℕ → ℕ → List (Walked V) → Type 0 = λ a b l. Offered ps t (cond (ltb a pool) (Some (rows ps ++ (q.0 ∷ []))) None) (cond (ltb b pool) (Some l) None) in
        subst (λ (o : Option (Walked V)). Offered ps t (cond (ltb (length (rows ps)) pool) (Some (rows ps ++ (q.0 ∷ []))) None) (relaxed_walks K pool n (labels ps) o)) (sym f)
        (subst (λ (a : ℕ). P a (length (labels ps)) (put n (labels ps))) (sym (length-map ps (λ s. s.0)))
        (subst (λ (b : ℕ). P (length ps) b (put n (labels ps))) (sym (length-map ps (λ s. walked s.0 s.1)))
        (subst (λ (l : List (Walked V)). P (length ps) (length ps) l) (sym p)
        (on (ltb (length ps) pool) (λ b. Offered ps t (cond b (Some (rows ps ++ (q.0 ∷ []))) None) (cond b (Some (labels ps ++ (n ∷ []))) None)) (λ _. made e) (λ _. tt)))))
    offer_at (Some j) e =
        let s = present_at ps j n e in
        let at = s.at in
        let old : get_or (rows ps) j q.0 ≡ at.0 = get_or-map (λ s. s.0) ps j at q.0 s.lower ∙ ap (λ (s : Strand V). s.0) s.read in
        let cheap = K.leq at.0.cost q.0.cost in
        subst (λ (o : Option (Walked V)). Offered ps t (Some (cond (stays K (get_or (rows ps) j q.0) q.0) (rows ps) (set (rows ps) j q.0))) (relaxed_walks K pool n (labels ps) o)) (sym s.found)
        (subst (λ (x : Label V). Offered ps t (Some (cond (stays K x q.0) (rows ps) (set (rows ps) j q.0))) (relaxed_walks K pool n (labels ps) (Some (walked at.0 at.1)))) (sym old)
        (subst (λ (l : List (Walked V)). Offered ps t (Some (cond (stays K at.0 q.0) (rows ps) (set (rows ps) j q.0))) (Some (cond at.0.settled (labels ps) (cond cheap (labels ps) l)))) (sym s.put_is)
        (on at.0.settled (λ b. Offered ps t (Some (cond (b || cheap) (rows ps) (set (rows ps) j q.0))) (Some (cond b (labels ps) (cond cheap (labels ps) (set (labels ps) j n)))))
        (λ _. stayed)
        (λ open'. on cheap (λ b. Offered ps t (Some (cond b (rows ps) (set (rows ps) j q.0))) (Some (cond b (labels ps) (set (labels ps) j n)))) (λ _. stayed) (λ _. replaced j s open')))))

    pub offer_both : Offered ps t (relaxed K pool q.0 (rows ps)) (offer K pool n (labels ps))
    offer_both = offer_at (place q.0.state.point q.0.state.word (rows ps)) refl

  -- the chosen label is settled where it stands
  pub record Settled (K : Kind V) (ps : List (Strand V)) (t i : ℕ) (x : Label V) : Type 0 where
    pub walk : List Arc
    pub lower : i < length ps
    pub chosen : best K (labels ps) ≡ Some (walked x walk)
    pub put_is : put (settle_walk (walked x walk)) (labels ps) ≡ labels (set ps i (settle x, walk))
    pub sound : Sound (set ps i (settle x, walk)) (suc t)

  pub settle_both : (K : Kind V) (ps : List (Strand V)) (t i : ℕ) (x : Label V) → Sound ps t → first K (rows ps) ≡ Some (i, x) → Settled K ps t i x
  settle_both K ps t i x sound e =
      let (m, (chosen, c)) = one-waits K ps i x e in
      let q : Strand V = (x, c.walk) in
      let y : Strand V = (settle x, c.walk) in
      let right = subst (Right ps t) c.read (All-get_or (Right ps t) ps i q c.lower sound.each) in
      let keeps = keeps_set ps i q y c.lower c.read c.waits in
      let spot = present_at ps i (settle_walk (walked x c.walk)) (sound.own i q c.lower c.read) in
      let moved = right_kept ps (set ps i y) t (suc t) q (omega arith) keeps right in
      record {
        walk = c.walk;
        lower = c.lower;
        chosen = chosen ∙ ap Some c.is;
        put_is = spot.put_is ∙ sym (map-set (λ s. walked s.0 s.1) ps i y);
        sound =
            sound_set ps t (suc t) sound (omega arith) i q y c.lower c.read c.waits refl refl
            (record {
              hops = right.hops;
              few = moved.few;
              fewer = λ _. let f = right.few in omega arith;
              reached = ⊎_elim (λ none. inl none) (λ b. inr (record { from = b.from; by = b.by; lower = b.lower; read = b.read; done = b.done; walk = b.walk; number = b.number })) moved.reached;
            });
      }
