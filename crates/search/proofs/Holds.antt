-- The labels in use of a pool, and the walks that their links stand for.
use Rattle.std.proofs.Common.{◌≡◌, ℕ, zero, suc, ◌<◌, ◌≤◌, List, [], ◌∷◌, ◌++◌, length, get_or, take, sym, ap, ◌∙◌, subst, ap₂, ⊎_elim, arith, length-take-le, get_or-take}
use Rattle.std.proofs.lemmas.List.{length-map}
use Rattle.std.proofs.lemmas.List.{map_push, get_or-map, length_push, nil_from_length}
use Rattle.std.proofs.ByRecursion.{All-get_or}
use Rattle.search.specs.declared.label.Label.{Label}
use Rattle.search.specs.Links.{traced, Linked}
use Rattle.search.specs.Answer.{numbers}
use Rattle.search.proofs.Strands.{Strand, rows, Behind, Right, Sound}

-- the labels in use of the pool, with their walks
pub record Held {V : Type 0} (pool : List (Label V)) (used t : ℕ) (ps : List (Strand V)) : Type 0 where
  pub fits : used ≤ length pool
  pub in_use : take used pool ≡ rows ps
  pub sound : Sound ps t

module _ {V : Type 0} (pool : List (Label V)) (used t : ℕ) (ps : List (Strand V)) (held : Held pool used t ps) where
  pub as_many : length ps ≡ used
  as_many = sym (length-map ps (λ q. q.0)) ∙ ap length (sym held.in_use) ∙ length-take-le used pool held.fits

  pub right_at : (i : ℕ) (q : Strand V) → i < length ps → get_or ps i q ≡ q → Right ps t q
  right_at i q low read = subst (Right ps t) read (All-get_or (Right ps t) ps i q low held.sound.each)

  read_row : (i : ℕ) (q : Strand V) (d : Label V) → i < length ps → get_or ps i q ≡ q → get_or pool i d ≡ q.0
  read_row i q d low read =
      let many = as_many in
      let below : i < used = omega arith in
      sym (get_or-take used pool i d below) ∙ ap (λ l. get_or l i d) held.in_use ∙ get_or-map (λ s. s.0) ps i q d low ∙ ap (λ (s : Strand V). s.0) read

  -- the links of a label stand for its walk
  pub trail :
      (d : Label V) (n i : ℕ) (q : Strand V) → length q.1 ≡ n → i < length ps → get_or ps i q ≡ q →
      Linked pool d n i × (traced pool d n i ≡ numbers q.1)
  trail d zero i q len low read = (tt, ap numbers (sym (nil_from_length q.1 len)))
  trail d (suc n) i q len low read =
      ⊎_elim
      (λ (e : q.1 ≡ []). let z : 0 ≡ suc n = ap length (sym e) ∙ len in absurd (omega arith))
      (λ (b : Behind ps q).
      let many = as_many in
      let fits = held.fits in
      let long = ap length b.walk ∙ length_push b.from.1 b.by in
      let shorter : length b.from.1 ≡ n = omega arith in
      let (linked, said) = trail d n q.0.parent b.from shorter b.lower b.read in
      let is = read_row i q d low read in (
        (omega arith, subst (λ (x : Label V). Linked pool d n x.parent) (sym is) linked),
        ap (λ (x : Label V). traced pool d n x.parent ++ (x.arc ∷ [])) is
            ∙ ap₂ (λ l a. l ++ (a ∷ [])) said (sym b.number)
            ∙ sym (ap numbers b.walk ∙ map_push (λ a. a.number) b.from.1 b.by),
      ))
      (right_at i q low read).reached
