-- One link of a walk back.
use Rattle.std.proofs.Common.{◌≡◌, ℕ, suc, ◌+◌, ◌<◌, List, [], ◌∷◌, ◌++◌, length, get_or, drop, set, sym, ap, ◌∙◌, subst, append_assoc, arith}
use Rattle.std.proofs.lemmas.List.{drop-set, get_or_read}
use Rattle.search.specs.declared.label.Label.{Label}
use Rattle.search.specs.Links.{traced, Linked}

module _ {V : Type 0} (xs : List (Label V)) (d : Label V) (k n i : ℕ) (one : k ≡ suc n) (linked : Linked xs d k i) where
  opened : (i < length xs) × Linked xs d n (get_or xs i d).parent
  opened = subst (λ (m : ℕ). Linked xs d m i) one linked

  pub linked_here : i < length xs
  linked_here = opened.0

  module _ (x : Label V) (is : x ≡ get_or xs i x) where
    read : get_or xs i d ≡ x
    read = sym (get_or_read xs i x opened.0 is d)

    pub linked_on : Linked xs d n x.parent
    linked_on = subst (λ y. Linked xs d n y.parent) read opened.1

    pub traced-on :
        (route : List ℕ) → n < length route →
        traced xs d k i ++ drop k route ≡ traced xs d n x.parent ++ drop n (set route n x.arc)
    traced-on route lt =
        let more : k ≡ n + 1 = omega arith in
        ap (λ m. traced xs d m i ++ drop k route) one
        ∙ ap (λ y. (traced xs d n y.parent ++ (y.arc ∷ [])) ++ drop k route) read
        ∙ append_assoc (traced xs d n x.parent) (x.arc ∷ []) (drop k route)
        ∙ ap (λ m. traced xs d n x.parent ++ (x.arc ∷ drop m route)) more
        ∙ ap (λ l. traced xs d n x.parent ++ l) (sym (drop-set route n x.arc lt))
