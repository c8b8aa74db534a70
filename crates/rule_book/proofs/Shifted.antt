-- What a word says of bits from place i on, it says, without the bits below i, of those from place 0 on.
use Rattle.std.proofs.Common.{◌≡◌, ℕ, ◌+◌, ◌/◌, ◌%◌, ◌^◌, Bool, true, not, ◌&&◌, ◌||◌, List, [], ◌∷◌, sym, refl, ap, ap₂, ◌∙◌, add_assoc, add-zero, zero-add, nat_eq}
use Rattle.std.proofs.lemmas.Nat.{shr-shr}
use Rattle.policies.specs.Places.{bit}
use Rattle.rule_exprs.specs.declared.expr.Place.{Place}
use Rattle.rule_exprs.specs.Formulas.{Formula, at_point, use_arc, from_point, to_point, negation, conjunction, disjunction, sequence, Formulas, none, more, marks}
use Rattle.rule_text.specs.Statements.{Statement}
use Rattle.rule_book.specs.Meaning.{breaks}
use Rattle.rule_book.specs.Marking.{latest, value, all_values, one_value, rule_marks, kept}

module _ (w i : ℕ) where
  bit_shift : (k : ℕ) → bit (w / 2 ^ i) k ≡ bit w (i + k)
  bit_shift k = ap (λ x. nat_eq (x % 2) 1) (shr-shr w i k)

  latest_shift : (qs : List Place) (k : ℕ) (given : Bool) → latest qs (w / 2 ^ i) k given ≡ latest qs w (i + k) given
  latest_shift [] k given = refl
  latest_shift (q ∷ qs) k given = latest_shift qs (k + 1) (bit (w / 2 ^ i) k) ∙ ap₂ (latest qs w) (sym (add_assoc i k 1)) (bit_shift k)

  mutual
    value_shift : (f : Formula) (k p : ℕ) → value f (w / 2 ^ i) k p ≡ value f w (i + k) p
    value_shift (at_point n) k p = bit_shift k
    value_shift (use_arc n) k p = bit_shift k
    value_shift (from_point n) k p = bit_shift k
    value_shift (to_point n) k p = refl
    value_shift (negation f) k p = ap not (value_shift f k p)
    value_shift (conjunction fs) k p = all_values_shift fs k p
    value_shift (disjunction fs) k p = one_value_shift fs k p
    value_shift (sequence qs) k p = latest_shift qs k true

    all_values_shift : (fs : Formulas) (k p : ℕ) → all_values fs (w / 2 ^ i) k p ≡ all_values fs w (i + k) p
    all_values_shift none k p = refl
    all_values_shift (more f fs) k p = ap₂ ◌&&◌ (value_shift f k p) (all_values_shift fs (k + marks f) p ∙ ap (λ n. all_values fs w n p) (sym (add_assoc i k (marks f))))

    one_value_shift : (fs : Formulas) (k p : ℕ) → one_value fs (w / 2 ^ i) k p ≡ one_value fs w (i + k) p
    one_value_shift none k p = refl
    one_value_shift (more f fs) k p = ap₂ ◌||◌ (value_shift f k p) (one_value_shift fs (k + marks f) p ∙ ap (λ n. one_value fs w n p) (sym (add_assoc i k (marks f))))

  kept_shift : (rs : List Statement) (k p : ℕ) → kept rs (w / 2 ^ i) k p ≡ kept rs w (i + k) p
  kept_shift [] k p = refl
  kept_shift (r ∷ rs) k p =
      ap₂ (λ x y. not x && y)
      (ap₂ (breaks r.kind) (value_shift r.condition k p) (value_shift r.consequence (k + marks r.condition) p ∙ ap (λ n. value r.consequence w n p) (sym (add_assoc i k (marks r.condition)))))
      (kept_shift rs (k + rule_marks r) p ∙ ap (λ n. kept rs w n p) (sym (add_assoc i k (rule_marks r))))

-- where v has the bits of w that the first i leave
module _ (w v i : ℕ) (left : v ≡ w / 2 ^ i) where
  next : i + 0 ≡ 0 + i
  next = add-zero i ∙ sym (zero-add i)

  pub latest_after : (qs : List Place) (given : Bool) → latest qs v 0 given ≡ latest qs w (0 + i) given
  latest_after qs given = ap (λ x. latest qs x 0 given) left ∙ latest_shift w i qs 0 given ∙ ap (λ n. latest qs w n given) next

  pub value_after : (f : Formula) (p : ℕ) → value f v 0 p ≡ value f w (0 + i) p
  value_after f p = ap (λ x. value f x 0 p) left ∙ value_shift w i f 0 p ∙ ap (λ n. value f w n p) next

  pub all_after : (fs : Formulas) (p : ℕ) → all_values fs v 0 p ≡ all_values fs w (0 + i) p
  all_after fs p = ap (λ x. all_values fs x 0 p) left ∙ all_values_shift w i fs 0 p ∙ ap (λ n. all_values fs w n p) next

  pub one_after : (fs : Formulas) (p : ℕ) → one_value fs v 0 p ≡ one_value fs w (0 + i) p
  one_after fs p = ap (λ x. one_value fs x 0 p) left ∙ one_value_shift w i fs 0 p ∙ ap (λ n. one_value fs w n p) next

  pub kept_after : (rs : List Statement) (p : ℕ) → kept rs v 0 p ≡ kept rs w (0 + i) p
  kept_after rs p = ap (λ x. kept rs x 0 p) left ∙ kept_shift w i rs 0 p ∙ ap (λ n. kept rs w n p) next

  pub left_after : (k : ℕ) → v / 2 ^ k ≡ w / 2 ^ (i + k)
  left_after k = ap (λ x. x / 2 ^ k) left ∙ shr-shr w i k
