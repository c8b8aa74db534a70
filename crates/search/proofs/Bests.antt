-- The waiting label to settle next: what holds of it.
use Rattle.std.proofs.Common.{◌≡◌, ℕ, suc, ◌+◌, ◌<◌, false, cond, List, [], ◌∷◌, length, get_or, IfSome, Some, None, Option, refl, subst, arith}
use Rattle.std.proofs.lemmas.Bool.{cond_both}
use Rattle.costs.specs.Kind.{Kind}
use Rattle.search_laws.specs.Search.{sooner}
use Rattle.search.specs.declared.label.Label.{Label}
use Rattle.search.specs.Links.{bare, prefer, first_from, first, Waits}

module _ {V : Type 0} (K : Kind V) where
  -- what holds of each waiting label holds of the one to settle next
  module _ (P : ℕ × Label V → Type 0) where
    prefer_keeps : (i : ℕ) (x : Label V) → (x.settled ≡ false → P (i, x)) → (best : Option (ℕ × Label V)) → IfSome best P → IfSome (prefer K i x best) P
    prefer_keeps i x here None h = cond_both x.settled None (Some (i, x)) (λ o. IfSome o P) (λ _. tt) here
    prefer_keeps i x here (Some s) h =
        cond_both x.settled (Some s) (cond (sooner K (bare s.1) (bare x)) (Some s) (Some (i, x))) (λ o. IfSome o P)
        (λ _. h)
        (λ w. cond_both (sooner K (bare s.1) (bare x)) (Some s) (Some (i, x)) (λ o. IfSome o P) (λ _. h) (λ _. here w))

    first_keeps :
        (xs : List (Label V)) (i : ℕ) → ((k : ℕ) (x : Label V) → k < length xs → x ≡ get_or xs k x → x.settled ≡ false → P (i + k, x)) →
        IfSome (first_from K i xs) P
    first_keeps [] i each = tt
    first_keeps (x ∷ xs) i each =
        prefer_keeps i x
        (λ w. let here : i + 0 ≡ i = omega arith in subst (λ k. P (k, x)) here (each 0 x (omega arith) refl w))
        (first_from K (i + 1) xs)
        (first_keeps xs (i + 1) (λ k y lt is w.
        let more : i + suc k ≡ i + 1 + k = omega arith in subst (λ n. P (n, y)) more (each (suc k) y (omega arith) is w)))

  pub first_waits : (xs : List (Label V)) → IfSome (first K xs) (λ s. Waits xs s)
  first_waits xs =
      first_keeps (λ s. Waits xs s) xs 0
      (λ k x lt is w. let same : k ≡ 0 + k = omega arith in subst (λ n. Waits xs (n, x)) same (record { lower = lt; read = is; waits = w }))
