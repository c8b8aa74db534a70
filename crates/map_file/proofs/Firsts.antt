-- The first index at which a test fails.
use Rattle.std.proofs.Common.{◌≡◌, ℕ, zero, suc, ◌+◌, ◌<◌, ◌≤◌, Bool, true, false, not, Some, None, Option, sym, refl, ap, ⊎_elim, add-one, arith, MatchOption, Result, Err}
use Rattle.std.specs.Bool.{then_some}
use Rattle.std.specs.Fn.{CalledAt}
use Rattle.std.specs.Iterator.{FindsItem}
use Rattle.std.specs.Option.{option_or}
use Rattle.std.specs.Result.{result_err}
use Rattle.std.specs.declared.ops.Range.{Range}
use Rattle.std.proofs.iter.Yields.{nat_range_steps}
use Rattle.std.proofs.lemmas.Bool.{cases_eq, not-true, not-false}
use Rattle.std.proofs.lemmas.Iterator.{first_from_Range}
use denote.Param.Members.{Mut}
use denote.Ref.{Bor}
use Rattle.streets.specs.declared.refusal.Refusal.{Refusal}
use Rattle.map_file.specs.Reading.{first_failing, first_or, fault_at}

-- no fault so far, and the test passes
pub first_or_none : (o : Option ℕ) (t : Bool) (n : ℕ) → first_or o t n ≡ None → (o ≡ None) × (t ≡ true)
first_or_none (Some i) t n e = cc
first_or_none None true n e = (refl, refl)
first_or_none None false n e = cc

module _ (test : ℕ → Bool) where
  -- a loop's step: one more that passes
  pub first_more : (n : ℕ) → first_failing test n ≡ None → test n ≡ true → first_failing test (n + 1) ≡ None
  first_more n before passes = let next = ap (first_failing test) (add-one n) in cc

  -- a loop's exit: the first that fails
  pub first_found : (n i : ℕ) → i < n → first_failing test i ≡ None → test i ≡ false → first_failing test n ≡ Some i
  first_found zero i h before fails = absurd (omega arith)
  first_found (suc n) i h before fails =
      ⊎_elim (λ e. cc) (λ ne. let found = first_found n i (omega arith) before fails in cc) (cases_eq i n)

  -- where none fails, each passes; and the other way round
  pub first_none : (n : ℕ) → first_failing test n ≡ None → (i : ℕ) → i < n → test i ≡ true
  first_none zero none i h = absurd (omega arith)
  first_none (suc n) none i h =
      let (before, passes) = first_or_none (first_failing test n) (test n) n none in
      ⊎_elim (λ e. cc) (λ ne. first_none n before i (omega arith)) (cases_eq i n)

  pub first_all : (n : ℕ) → ((i : ℕ) → i < n → test i ≡ true) → first_failing test n ≡ None
  first_all zero each = refl
  first_all (suc n) each =
      let before = first_all n (λ i h. each i (omega arith)) in
      let passes = each n (omega arith) in
      cc

  found_by : (n : ℕ) (s : Range ℕ) (r : Option ℕ) → s ≡ record { start = 0; end = n } → MatchOption r ((i : ℕ) → s.start ≤ i → i < s.end → test i ≡ true) (λ i. (s.start ≤ i) × (i < s.end) × (test i ≡ false) × ((k : ℕ) → s.start ≤ k → k < i → test k ≡ true)) → r ≡ first_failing test n
  found_by n s None is each =
      let (from, to) : (s.start ≡ 0) × (s.end ≡ n) = (cc, cc) in
      sym (first_all n (λ i h. each i (omega arith) (omega arith)))
  found_by n s (Some i) is found =
      let (from, to) : (s.start ≡ 0) × (s.end ≡ n) = (cc, cc) in
      sym (first_found n i (omega arith) (first_all i (λ k h. found.3 k (omega arith) h)) found.2)

  -- what `find` answers over the first n, by a closure that is true where the test fails
  pub first_from_find : {F : Type 0} {g : Mut F (Bor ℕ × Unit {0}) Bool} (n : ℕ) (s u : Range ℕ) (f : F) (r : Option ℕ) → s ≡ record { start = 0; end = n } → FindsItem nat_range_steps g s f r u → ((i : ℕ) (fails : Bool) (q : F) → CalledAt g f i fails q → (q ≡ f) × (not (test i) ≡ fails)) → r ≡ first_failing test n
  first_from_find n s u f r is ran calls =
      found_by n s r is (first_from_Range s u f r (λ i. test i ≡ false) (λ i. test i ≡ true) ran (λ i q k. not-true _ (calls i true q k).1) (λ i q k. let e = calls i false q k in (e.0, not-false _ e.1)))

-- a later place, where none was found
pub first_or_last : (o : Option ℕ) (t : Bool) (n : ℕ) → option_or o (then_some (not t) n) ≡ first_or o t n
first_or_last (Some i) t n = refl
first_or_last None true n = refl
first_or_last None false n = refl

-- the place of the first as a refusal
pub refused_at : {X : Type 0} (name : ℕ → Refusal) (o : Option ℕ) (r : Result X Refusal) (P : Type 0) (Q : ℕ → Type 0) → MatchOption o P Q → (P → result_err r ≡ None) → ((i : ℕ) → Q i → r ≡ Err (name i)) → result_err r ≡ fault_at name o
refused_at name None r P Q p passes fails = passes p
refused_at name (Some i) r P Q q passes fails = ap result_err (fails i q)
