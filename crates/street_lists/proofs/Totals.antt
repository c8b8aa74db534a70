-- A map has no more arcs than there are numbers.
use Rattle.std.proofs.Common.{◌≡◌, ℕ, zero, suc, ◌+◌, ◌<◌, ◌≤◌, ◌⊎◌, true, false, eqb, List, [], ◌∷◌, ◌++◌, length, Some, None, Option, sym, refl, ap, ◌∙◌, ⊎_elim, inl, inr, append-nil, arith, length-append}
use Rattle.std.specs.Cmp.{nat_eq_equiv}
use Rattle.std.specs.List.{IsDistinct, list_any}
use Rattle.std.specs.Option.{option_to_list}
use Rattle.std.proofs.lemmas.Bool.{cases_Bool, or_cases, eqb-true}
use Rattle.std.proofs.lemmas.List.Folds.{list_any-append}
use Rattle.std.proofs.lemmas.Map.Keys.{IsDistinct-push}
use Rattle.std.proofs.lemmas.Map.Steps.{length-le_from_distinct_below}
use Rattle.streets.specs.declared.arc.Arc.{Arc}
use Rattle.streets.specs.Limits.{numbers_end}
use Rattle.streets.specs.Network.{View, Lawful, listed, network, arc_total}

-- slot j of point q comes before slot k of point p
abbrev Before : (q j p k : ℕ) → Type 0
Before q j p k = (q < p) ⊎ ((q ≡ p) × (j < k))

-- the number of an arc in a slot before slot k of point p
record From (v : View) (p k x : ℕ) : Type 0 where
  point : ℕ
  slot : ℕ
  arc : Arc
  before : Before point slot p k
  holds : v.slot point slot ≡ Some arc
  number : arc.number ≡ x

-- the numbers of the arcs before slot k of point p
record Numbers (v : View) (p k : ℕ) (xs : List ℕ) : Type 0 where
  apart : IsDistinct eqb xs
  from : (x : ℕ) → list_any (eqb x) xs ≡ true → From v p k x
  many : length xs ≡ arc_total (network v).arcs p + length (listed (v.slot p) k)

false_true : false ≡ true → ⊥
false_true z = cc

module _ (v : View) (law : Lawful v) where
  later : (p k q j : ℕ) → ((r i : ℕ) → Before r i p k → Before r i q j) → (x : ℕ) → From v p k x → From v q j x
  later p k q j up x f = record { point = f.point; slot = f.slot; arc = f.arc; before = up f.point f.slot f.before; holds = f.holds; number = f.number }

  next_slot : (p k r i : ℕ) → Before r i p k → Before r i p (suc k)
  next_slot p k r i (inl h) = inl h
  next_slot p k r i (inr h) = inr (h.0, let s = h.1 in omega arith)

  next_point : (p k r i : ℕ) → Before r i p k → Before r i (suc p) 0
  next_point p k r i (inl h) = inl (omega arith)
  next_point p k r i (inr h) = inl (let s = h.0 in omega arith)

  -- an arc of this slot has a number that no arc before has
  new_number : (p k : ℕ) (a : Arc) → v.slot p k ≡ Some a → From v p k a.number → ⊥
  new_number p k a e f = go f.before (law.apart f.point p f.slot k f.arc a f.holds e f.number)
    where
      go : Before f.point f.slot p k → (f.point ≡ p) × (f.slot ≡ k) → ⊥
      go (inl h) s = let t = s.0 in omega arith
      go (inr h) s = let t = s.1 in let u = h.1 in omega arith

  one_slot : (p k : ℕ) (xs : List ℕ) → Numbers v p k xs → (o : Option Arc) → v.slot p k ≡ o → (ys : List ℕ) × Numbers v p (suc k) ys
  one_slot p k xs n None e = (
    xs,
    record {
      apart = n.apart;
      from = λ x h. later p k p (suc k) (next_slot p k) x (n.from x h);
      many = n.many ∙ ap (λ l. arc_total (network v).arcs p + length l) (sym (append-nil (listed (v.slot p) k)) ∙ ap (λ o. listed (v.slot p) k ++ option_to_list o) (sym e));
    },
  )
  one_slot p k xs n (Some a) e =
      let step : listed (v.slot p) (suc k) ≡ listed (v.slot p) k ++ a ∷ [] = ap (λ o. listed (v.slot p) k ++ option_to_list o) e in (
        xs ++ a.number ∷ [],
        record {
          apart = IsDistinct-push nat_eq_equiv xs a.number n.apart (⊎_elim (λ h. absurd (new_number p k a e (n.from a.number h))) (λ h. h) (cases_Bool (list_any (eqb a.number) xs)));
          from = λ x h. ⊎_elim (λ old. later p k p (suc k) (next_slot p k) x (n.from x old)) (λ new. this x (⊎_elim (eqb-true x a.number) (λ z. absurd (false_true z)) (or_cases (eqb x a.number) false new))) (or_cases (list_any (eqb x) xs) (list_any (eqb x) (a.number ∷ [])) (sym (list_any-append (eqb x) xs (a.number ∷ [])) ∙ h));
          many = let m = n.many in omega (arith, length-append xs (a.number ∷ []), ap length step, length-append (listed (v.slot p) k) (a ∷ []));
        },
      )
    where
      this : (x : ℕ) → x ≡ a.number → From v p (suc k) x
      this x same = record { point = p; slot = k; arc = a; before = inr (refl, omega arith); holds = e; number = sym same }

  slots_numbers : (p k : ℕ) → ((xs : List ℕ) × Numbers v p 0 xs) → (ys : List ℕ) × Numbers v p k ys
  slots_numbers p zero n = n
  slots_numbers p (suc k) n = let (ys, m) = slots_numbers p k n in one_slot p k ys m (v.slot p k) refl

  points_numbers : (p : ℕ) → (xs : List ℕ) × Numbers v p 0 xs
  unfolding IsDistinct
  points_numbers zero = ([], record { apart = tt; from = λ x h. absurd (false_true h); many = refl })
  points_numbers (suc p) =
      let (xs, n) = slots_numbers p (v.slots p) (points_numbers p) in
      (xs, record { apart = n.apart; from = λ x h. later p (v.slots p) (suc p) 0 (next_point p (v.slots p)) x (n.from x h); many = let m = n.many in omega arith })

  -- a number of an arc is below the end of the numbers
  small : (p k x : ℕ) → From v p k x → x < numbers_end
  small p k x f = let s = (law.fine f.point f.slot f.arc f.holds).number in omega (arith, f.number)

  pub arcs_few : (p : ℕ) → arc_total (network v).arcs p ≤ numbers_end
  arcs_few p =
      let (xs, n) = points_numbers p in
      let few = length-le_from_distinct_below xs numbers_end n.apart (λ x h. small p 0 x (n.from x h)) in
      omega (arith, n.many)
