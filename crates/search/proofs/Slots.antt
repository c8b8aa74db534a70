-- The slots of a point, followed one by one.
use Rattle.std.proofs.Common.{◌≡◌, ℕ, zero, suc, ◌+◌, ◌<◌, ◌≤◌, List, [], ◌++◌, Option, sym, refl, ap, ◌∙◌, ⊎_elim, append_assoc, append-nil, arith, None, Some}
use Rattle.std.proofs.lemmas.Bool.{cases_lt}
use Rattle.std.specs.Option.{option_to_list}
use Rattle.streets.specs.declared.arc.Arc.{Arc}
use Rattle.streets.specs.Network.{Network, listed}
use Rattle.streets.specs.Facts.{listed_more}
use Rattle.costs.specs.Kind.{Kind}
use Rattle.policies.specs.Automaton.{Automaton}
use Rattle.search_laws.specs.Search.{Label, chain, expand}
use Rattle.search_laws.proofs.Steps.{expand_append, expand_exhausted}

-- the first slots of all
listed_rest : (f : ℕ → Option Arc) (k n : ℕ) → k ≤ n → (bs : List Arc) × (listed f n ≡ listed f k ++ bs)
listed_rest f k zero le = let none_yet : 0 ≡ k = omega arith in ([], ap (listed f) none_yet ∙ sym (append-nil (listed f k)))
listed_rest f k (suc n) le =
    ⊎_elim
    (λ (lt : k < suc n).
    let (bs, e) = listed_rest f k n (omega arith) in
    (bs ++ option_to_list (f n), ap (λ l. l ++ option_to_list (f n)) e ∙ append_assoc (listed f k) bs (option_to_list (f n))))
    (λ (ge : suc n ≤ k). let all : suc n ≡ k = omega arith in ([], ap (listed f) all ∙ sym (append-nil (listed f k))))
    (cases_lt k (suc n))

module _ {V : Type 0} (N : Network) (K : Kind V) (P : Automaton) (goal size : ℕ) (m : Label V) (f : ℕ → Option Arc) where
  -- one slot more
  pub slot-more :
      (k : ℕ) (rs ss : List (Label V)) → expand K P size m (listed f k) rs ≡ Some ss →
      expand K P size m (listed f (k + 1)) rs ≡ expand K P size m (option_to_list (f k)) ss
  slot-more k rs ss so_far =
      ap (λ bs. expand K P size m bs rs) (listed_more f k (f k) refl)
      ∙ expand_append N K P goal size m (listed f k) (option_to_list (f k)) rs
      ∙ ap (λ r. chain r (λ ss. expand K P size m (option_to_list (f k)) ss)) so_far

  -- exhausted at one slot, exhausted at all
  pub slots_none : (k n : ℕ) (rs : List (Label V)) → k ≤ n → expand K P size m (listed f k) rs ≡ None → expand K P size m (listed f n) rs ≡ None
  slots_none k n rs le e =
      let (bs, is) = listed_rest f k n le in
      ap (λ l. expand K P size m l rs) is ∙ expand_exhausted N K P goal size m (listed f k) bs rs e
