-- Points walked from 0 up, as a chain of iterators walks them.
use Rattle.std.proofs.Common.{◌≡◌, ℕ, zero, suc, List, [], ◌∷◌, ◌++◌, length, sym, refl, ap, ◌∙◌, add-one, arith, map, map-id}
use Rattle.std.specs.List.{range_with_len, sum_by}
use Rattle.std.proofs.lemmas.List.FromFn.{map-range_with_len_more}
use Rattle.std.proofs.lemmas.List.Sums.{sum_by-append}
use Rattle.streets.specs.declared.arc.Arc.{Arc}
use Rattle.streets.specs.Network.{arc_total}

numbers_more : (n : ℕ) → range_with_len 0 (suc n) ≡ range_with_len 0 n ++ n ∷ []
numbers_more n =
    sym (map-id (range_with_len 0 (suc n))) ∙ ap (λ k. map (λ x. x) (range_with_len 0 k)) (sym (add-one n))
    ∙ map-range_with_len_more (λ x. x) 0 n n (omega arith) ∙ ap (λ xs. xs ++ n ∷ []) (map-id (range_with_len 0 n))

pub arc_total-sum_by : (arcs : ℕ → List Arc) (n : ℕ) → arc_total arcs n ≡ sum_by (λ p. length (arcs p)) (range_with_len 0 n)
arc_total-sum_by arcs zero = refl
arc_total-sum_by arcs (suc n) =
    let f : ℕ → ℕ = λ p. length (arcs p) in
    omega (arith, arc_total-sum_by arcs n, ap (sum_by f) (numbers_more n), sum_by-append f (range_with_len 0 n) (n ∷ []))
