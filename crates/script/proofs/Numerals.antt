-- When a word writes a number.
use Rattle.std.proofs.Common.{◌≡◌, ℕ, ◌+◌, ◌-◌, ◌*◌, ◌≤◌, true, List, length, Some, None, fold, rules, arith}
use Rattle.std.specs.Str.{all_ascii_digits}
use Rattle.std.proofs.lemmas.Bool.Decides.{nat_tests}
use Rattle.std.proofs.lemmas.Str.Parse.{IsNumeralModel, numerals_by_fold, tells_all_ascii_digits}
use Rattle.script.specs.Numbers.{number_of, decimal_value}

pub own : IsNumeralModel (λ ds. all_ascii_digits ds ≡ true) decimal_value
own = numerals_by_fold (λ ds. all_ascii_digits ds ≡ true) tells_all_ascii_digits (fold (λ n b. n * 10 + (b - 48))) (search rules)

pub is_number : (w : List ℕ) → 1 ≤ length w → length w ≤ 10 → all_ascii_digits w ≡ true → number_of w ≡ Some (decimal_value w)
is_number w some most all = grind (arith, nat_tests)

pub not_number : (w : List ℕ) → (length w ≤ 10 → all_ascii_digits w ≡ true → ⊥) → None ≡ number_of w
not_number w fails = grind (arith, nat_tests)
