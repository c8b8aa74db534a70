-- No fault is found exactly in bytes in which every check passes.
use Rattle.std.proofs.Common.{◌==◌, ◌≡◌, ℕ, zero, suc, ◌<◌, Bool, true, false, cond, List, Some, None, Option, refl, ap, ⊎_elim, arith}
use Rattle.std.proofs.lemmas.Bool.{cases_eq}
use Rattle.std.proofs.lemmas.Bool.Decides.{nat_tests}
use Rattle.streets.specs.declared.refusal.Refusal.{Refusal}
use Rattle.streets.specs.declared.refusal.Refusal.TheVariants.{PairOutOfLine, RecordOutside, NumberTaken}
use Rattle.map_file.specs.Reading.{points, records, end_before, arc_at, is_in_line, is_within, taken, is_new, first_failing, counts_fault, fault_at, pairs_fault, records_fault, numbers_fault, or_else, contents_fault, fault_of}
use Rattle.map_file.specs.Sound.{Sized, Counted, Readable, Sound}
use Rattle.map_file.proofs.Firsts.{first_or_none, first_none, first_all}

-- a chain of checks finds nothing where none of them does
or_else_none : (x y : Option Refusal) → or_else x y ≡ None → (x ≡ None) × (y ≡ None)
or_else_none None y e = (refl, e)
or_else_none (Some f) y e = cc

fault_at_none : (name : ℕ → Refusal) (o : Option ℕ) → fault_at name o ≡ None → o ≡ None
fault_at_none name None e = refl
fault_at_none name (Some i) e = cc

some_unless : (t : Bool) (f : Refusal) (o : Option Refusal) → cond t (Some f) o ≡ None → (t ≡ false) × (o ≡ None)
some_unless true f o e = cc
some_unless false f o e = (refl, e)

none_only : (t : Bool) (f : Refusal) (o : Option Refusal) → cond t o (Some f) ≡ None → (t ≡ true) × (o ≡ None)
none_only true f o e = (refl, e)
none_only false f o e = cc

module _ (b : List ℕ) where
  not_taken : (i k : ℕ) → taken b i k ≡ false → (j : ℕ) → j < i → (arc_at b j).number ≡ k → ⊥
  not_taken zero k e j h s = omega arith
  not_taken (suc i) k e j h s =
      ⊎_elim (λ q. let same = ap (λ r. (arc_at b r).number) q in grind (arith, nat_tests)) (λ ne. not_taken i k (grind (arith, nat_tests)) j (omega arith) s) (cases_eq j i)

  none_taken : (i k : ℕ) → ((j : ℕ) → j < i → (arc_at b j).number ≡ k → ⊥) → taken b i k ≡ false
  none_taken zero k each = refl
  none_taken (suc i) k each =
      let before = none_taken i k (λ j h. each j (omega arith)) in
      let here = each i (omega arith) in
      grind (arith, nat_tests)

  pub counted : counts_fault b ≡ None → Counted b
  counted e = grind (arith, nat_tests)

  counts_pass : Counted b → counts_fault b ≡ None
  counts_pass c = grind (arith, nat_tests)

  -- bytes of their counts' length whose pairs and records pass can be read
  pub readable_from_none : Sized b → contents_fault b ≡ None → Readable b
  readable_from_none size e =
      let (pairs, last) = or_else_none (pairs_fault b) _ e in
      let (outside, numbers) = or_else_none (records_fault b) (numbers_fault b) last in
      let (line, end) = first_or_none (first_failing (is_in_line b) (points b)) (end_before b (points b) == records b) (points b) (fault_at_none PairOutOfLine _ pairs) in
      let within = first_none (λ i. is_within (points b) (arc_at b i)) (records b) (fault_at_none RecordOutside _ outside) in
      let new = first_none (is_new b) (records b) (fault_at_none NumberTaken _ numbers) in
      record {
        sized = size;
        line = λ p h. let passes = first_none (is_in_line b) (points b) line p h in grind (arith, nat_tests);
        full = grind (arith, nat_tests);
        limits = λ i h. let w = within i h in let n = new i h in grind (arith, nat_tests);
        distinct = λ i j h k. let n = new j k in not_taken j (arc_at b j).number (grind (arith, nat_tests)) i h;
      }

  pub sound_from_none : fault_of b ≡ None → Sound b
  sound_from_none e =
      let (counts, contents) = or_else_none (counts_fault b) _ e in
      let c = counted counts in
      record { counted = c; readable = readable_from_none c.sized contents }

  pub none_from_sound : Sound b → fault_of b ≡ None
  none_from_sound s =
      let counts = counts_pass s.counted in
      let line = first_all (is_in_line b) (points b) (λ p h. let e = s.readable.line p h in grind (arith, nat_tests)) in
      let pairs : pairs_fault b ≡ None = let full = s.readable.full in grind (arith, nat_tests) in
      let outside = first_all (λ i. is_within (points b) (arc_at b i)) (records b) (λ i h. let f = s.readable.limits i h in grind (arith, nat_tests)) in
      let new = first_all (is_new b) (records b) (λ i h. let f = s.readable.limits i h in let free = none_taken i (arc_at b i).number (λ j k. s.readable.distinct j i k h) in grind (arith, nat_tests)) in
      cc
