-- The numbers that a check has met, as marks.
use Rattle.std.proofs.Common.{◌≡◌, ℕ, ◌+◌, ◌<◌, Bool, true, false, not, ◌&&◌, ltb, List, length, get_or, set, replicate, ap, ◌∙◌, ⊎_elim, add-one, arith}
use lib.ListN.{get_or-replicate, length-replicate}
use Rattle.std.proofs.lemmas.Grind.{common_steps}
use Rattle.std.proofs.lemmas.Bool.{cases_eq, cases_lt}
use Rattle.streets.specs.Closing.{marked}
use Rattle.map_file.specs.Reading.{arc_at, taken, is_new}

-- the marks are the numbers of the first i records
pub record Met (b : List ℕ) (table : List Bool) (i : ℕ) : Type 0 where
  pub long : length table ≡ 4096
  pub same : (k : ℕ) → k < 4096 → marked table k ≡ taken b i k

module _ (b : List ℕ) where
  pub met_none : (table : List Bool) → table ≡ replicate 4096 false → Met b table 0
  met_none table e = record {
    long = ap length e ∙ length-replicate 4096 false;
    same = λ k h. ap (λ t. get_or t k false) e ∙ get_or-replicate 4096 k false false h;
  }

  module _ (table : List Bool) (i number : ℕ) (met : Met b table i) (is : number ≡ (arc_at b i).number) where
    -- a number is new where it is in range and not marked
    pub met_test : is_new b i ≡ ltb number 4096 && not (marked table number)
    met_test = ⊎_elim (λ small. let same = met.same number small in grind (arith, common_steps)) (λ large. grind (arith, common_steps)) (cases_lt number 4096)

    -- and is marked then
    pub met_more : (after : List Bool) → number < 4096 → after ≡ set table number true → Met b after (i + 1)
    met_more after small e = record {
      long = grind (arith, common_steps);
      same = λ k h. let before = met.same k h in let more = ap (λ j. taken b j k) (add-one i) in ⊎_elim (λ q. grind (arith, common_steps)) (λ ne. grind (arith, common_steps)) (cases_eq k number);
    }
