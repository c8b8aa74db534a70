-- The pool as a map from states to labels: `find` and `put`.
use Rattle.std.proofs.Common.{◌≡◌, ℕ, suc, ◌≤◌, Bool, true, false, cond, ◌&&◌, eqb, List, [], ◌∷◌, map, length, sym, refl, ap, ◌∙◌, subst, subst₂, inl, inr, arith, None, Some, Option}
use Rattle.std.specs.List.{AllByRecursion}
use Rattle.std.proofs.lemmas.Bool.{and_parts, and_from, eqb-true, eq-eqb, both_ways}
use Rattle.search_laws.specs.Walks.{In}
use Rattle.search_laws.specs.Right.{Apart}
use Rattle.search_laws.specs.Search.{Label, is_at, find, put}

-- a test passes or fails: the way to split a goal on a test b, with the equation at hand in each case
abbrev pub on : (b : Bool) (Q : Bool → Type 0) → (b ≡ true → Q true) → (b ≡ false → Q false) → Q b
on true Q yes' no' = yes' refl
on false Q yes' no' = no' refl

-- the same for an Option
abbrev pub on_option : {A : Type 0} (o : Option A) (Q : Option A → Type 0) → (o ≡ None → Q None) → ((a : A) → o ≡ Some a → Q (Some a)) → Q o
on_option None Q nothing something = nothing refl
on_option (Some a) Q nothing something = something a refl

pub none_some : {A B : Type 0} {x : Option A} {a : A} → x ≡ None → x ≡ Some a → B
none_some e f = cc

pub some_same : {A : Type 0} {x : Option A} {a b : A} → x ≡ Some a → x ≡ Some b → a ≡ b
some_same e f = cc

module _ {V : Type 0} where
  -- how many labels are settled
  abbrev pub count : List (Label V) → ℕ
  count [] = 0
  count (r ∷ rs) = cond r.settled (suc (count rs)) (count rs)

  -- no two labels have one state
  abbrev pub Distinct : List (Label V) → Type 0
  Distinct [] = Unit {0}
  Distinct (r ∷ rs) = (find r.point r.word rs ≡ None) × Distinct rs

  pub is_at_self : (r : Label V) → is_at r.point r.word r ≡ true
  is_at_self r = and_from (eqb r.point r.point) (eqb r.word r.word) (eq-eqb _ _ refl) (eq-eqb _ _ refl)

  pub is_at_where : (p w : ℕ) (r : Label V) → is_at p w r ≡ true → (p ≡ r.point) × (w ≡ r.word)
  is_at_where p w r e =
      let both = and_parts (eqb p r.point) (eqb w r.word) e in
      (eqb-true p r.point both.0, eqb-true w r.word both.1)

  pub is_at_turned : (n r : Label V) → is_at n.point n.word r ≡ false → is_at r.point r.word n ≡ false
  is_at_turned n r e =
      on (is_at r.point r.word n) (λ b. b ≡ false)
      (λ t.
      let at = is_at_where r.point r.word n t in
      absurd (both_ways _ e (subst₂ (λ x y. is_at x y r ≡ true) at.0 at.1 (is_at_self r))))
      (λ t. refl)

  -- the label that is found is of the state that was looked for
  pub find_where : (p w : ℕ) (rs : List (Label V)) (r : Label V) → find p w rs ≡ Some r → (p ≡ r.point) × (w ≡ r.word)
  find_where p w [] r e = none_some refl e
  find_where p w (s ∷ rs) r e =
      on (is_at p w s) (λ b. cond b (Some s) (find p w rs) ≡ Some r → (p ≡ r.point) × (w ≡ r.word))
      (λ t e. is_at_where p w r (subst (λ x. is_at p w x ≡ true) (some_same refl e) t))
      (λ t e. find_where p w rs r e)
      e

  pub all_find : (Q : Label V → Type 0) (p w : ℕ) (rs : List (Label V)) (r : Label V) → find p w rs ≡ Some r → AllByRecursion Q rs → Q r
  all_find Q p w [] r e h = none_some refl e
  all_find Q p w (s ∷ rs) r e h =
      on (is_at p w s) (λ b. cond b (Some s) (find p w rs) ≡ Some r → Q r)
      (λ t e. subst Q (some_same refl e) h.0)
      (λ t e. all_find Q p w rs r e h.1)
      e

  pub all_put : (Q : Label V → Type 0) (n : Label V) (rs : List (Label V)) → Q n → AllByRecursion Q rs → AllByRecursion Q (put n rs)
  all_put Q n [] q h = (q, tt)
  all_put Q n (r ∷ rs) q h =
      on (is_at n.point n.word r) (λ b. AllByRecursion Q (cond b (n ∷ rs) (r ∷ put n rs)))
      (λ t. (q, h.1))
      (λ t. (h.0, all_put Q n rs q h.1))

  pub find_put_same : (n : Label V) (rs : List (Label V)) → find n.point n.word (put n rs) ≡ Some n
  find_put_same n [] = rw (is_at_self n)
  find_put_same n (r ∷ rs) =
      on (is_at n.point n.word r) (λ b. find n.point n.word (cond b (n ∷ rs) (r ∷ put n rs)) ≡ Some n)
      (λ t. rw (is_at_self n))
      (λ t. rw t (find_put_same n rs))

  pub find_put_other : (p w : ℕ) (n : Label V) (rs : List (Label V)) → is_at p w n ≡ false → find p w (put n rs) ≡ find p w rs
  find_put_other p w n [] e = rw e
  find_put_other p w n (r ∷ rs) e =
      on (is_at n.point n.word r) (λ b. find p w (cond b (n ∷ rs) (r ∷ put n rs)) ≡ find p w (r ∷ rs))
      (λ t.
      let at = is_at_where n.point n.word r t in
      let f : is_at p w r ≡ false = subst₂ (λ x y. (eqb p x && eqb w y) ≡ false) at.0 at.1 e in
      rw (e, f))
      (λ t. ap (λ x. cond (is_at p w r) (Some r) x) (find_put_other p w n rs e))

  pub distinct_put : (n : Label V) (rs : List (Label V)) → Distinct rs → Distinct (put n rs)
  distinct_put n [] d = (refl, tt)
  distinct_put n (r ∷ rs) d =
      on (is_at n.point n.word r) (λ b. Distinct (cond b (n ∷ rs) (r ∷ put n rs)))
      (λ t.
      let at = is_at_where n.point n.word r t in
      (subst₂ (λ x y. find x y rs ≡ None) (sym at.0) (sym at.1) d.0, d.1))
      (λ t. (find_put_other r.point r.word n rs (is_at_turned n r t) ∙ d.0, distinct_put n rs d.1))

  -- the state of a label
  abbrev pub state_of : Label V → ℕ × ℕ
  state_of r = (r.point, r.word)

  none_in : (p w : ℕ) (rs : List (Label V)) → find p w rs ≡ None → In (p, w) (map state_of rs) → ⊥
  none_in p w [] e h = h
  none_in p w (r ∷ rs) e (inl h) =
      none_some e (ap (λ b. cond b (Some r) (find p w rs)) (subst (λ x. (eqb p x.0 && eqb w x.1) ≡ true) h (and_from _ _ (eq-eqb p p refl) (eq-eqb w w refl))))
  none_in p w (r ∷ rs) e (inr h) =
      on (is_at p w r) (λ b. cond b (Some r) (find p w rs) ≡ None → ⊥) (λ t e. none_some e refl) (λ t e. none_in p w rs e h) e

  pub apart_states : (rs : List (Label V)) → Distinct rs → Apart (map state_of rs)
  apart_states [] d = tt
  apart_states (r ∷ rs) d = (none_in r.point r.word rs d.0, apart_states rs d.1)

  -- sizes
  pub length_put_new : (n : Label V) (rs : List (Label V)) → find n.point n.word rs ≡ None → length (put n rs) ≡ suc (length rs)
  length_put_new n [] e = refl
  length_put_new n (r ∷ rs) e =
      on (is_at n.point n.word r)
      (λ b. cond b (Some r) (find n.point n.word rs) ≡ None → length (cond b (n ∷ rs) (r ∷ put n rs)) ≡ suc (suc (length rs)))
      (λ t e. none_some e refl)
      (λ t e. ap suc (length_put_new n rs e))
      e

  pub length_put_known : (n : Label V) (rs : List (Label V)) (s : Label V) → find n.point n.word rs ≡ Some s → length (put n rs) ≡ length rs
  length_put_known n [] s e = none_some refl e
  length_put_known n (r ∷ rs) s e =
      on (is_at n.point n.word r)
      (λ b. cond b (Some r) (find n.point n.word rs) ≡ Some s → length (cond b (n ∷ rs) (r ∷ put n rs)) ≡ suc (length rs))
      (λ t e. refl)
      (λ t e. ap suc (length_put_known n rs s e))
      e

  pub count_put_new : (n : Label V) (rs : List (Label V)) → n.settled ≡ false → find n.point n.word rs ≡ None → count (put n rs) ≡ count rs
  count_put_new n [] w e = rw w
  count_put_new n (r ∷ rs) w e =
      on (is_at n.point n.word r)
      (λ b. cond b (Some r) (find n.point n.word rs) ≡ None → count (cond b (n ∷ rs) (r ∷ put n rs)) ≡ count (r ∷ rs))
      (λ t e. none_some e refl)
      (λ t e. ap (λ k. cond r.settled (suc k) k) (count_put_new n rs w e))
      e

  -- a waiting label gives way to a waiting one
  pub count_put_known : (n : Label V) (rs : List (Label V)) (s : Label V) → n.settled ≡ false → s.settled ≡ false →
      find n.point n.word rs ≡ Some s → count (put n rs) ≡ count rs
  count_put_known n [] s w v e = none_some refl e
  count_put_known n (r ∷ rs) s w v e =
      on (is_at n.point n.word r)
      (λ b. cond b (Some r) (find n.point n.word rs) ≡ Some s → count (cond b (n ∷ rs) (r ∷ put n rs)) ≡ count (r ∷ rs))
      (λ t e.
      let u : r.settled ≡ false = ap (λ x. x.settled) (some_same refl e) ∙ v in
      rw (w, u))
      (λ t e. ap (λ k. cond r.settled (suc k) k) (count_put_known n rs s w v e))
      e

  -- a waiting label is settled
  pub count_put_settled : (n : Label V) (rs : List (Label V)) (s : Label V) → n.settled ≡ true → s.settled ≡ false →
      find n.point n.word rs ≡ Some s → count (put n rs) ≡ suc (count rs)
  count_put_settled n [] s w v e = none_some refl e
  count_put_settled n (r ∷ rs) s w v e =
      on (is_at n.point n.word r)
      (λ b. cond b (Some r) (find n.point n.word rs) ≡ Some s → count (cond b (n ∷ rs) (r ∷ put n rs)) ≡ suc (count (r ∷ rs)))
      (λ t e.
      let u : r.settled ≡ false = ap (λ x. x.settled) (some_same refl e) ∙ v in
      rw (w, u))
      (λ t e. ap (λ k. cond r.settled (suc k) k) (count_put_settled n rs s w v e) ∙ on r.settled (λ b. cond b (suc (suc (count rs))) (suc (count rs)) ≡ suc (cond b (suc (count rs)) (count rs))) (λ t. refl) (λ t. refl))
      e

  pub count_bound : (rs : List (Label V)) → count rs ≤ length rs
  count_bound [] = omega arith
  count_bound (r ∷ rs) =
      let h = count_bound rs in
      on r.settled (λ b. cond b (suc (count rs)) (count rs) ≤ suc (length rs)) (λ t. omega arith) (λ t. omega arith)

  -- as many are settled as there are: none waits
  pub all_settled : (rs : List (Label V)) → length rs ≤ count rs → AllByRecursion (λ r. r.settled ≡ true) rs
  all_settled [] h = tt
  all_settled (r ∷ rs) h =
      let k = count_bound rs in
      on r.settled (λ b. suc (length rs) ≤ cond b (suc (count rs)) (count rs) → AllByRecursion (λ r. r.settled ≡ true) (r ∷ rs))
      (λ t h. (t, all_settled rs (omega arith)))
      (λ t h. absurd (omega arith))
      h
