-- What a word writes as a number.
use Rattle.std.specs.Prelude.{ℕ, ◌+◌, ◌-◌, ◌*◌, Bool, cond, ◌&&◌, List, length, Some, None, fold, Option, nat_le}
use Rattle.std.specs.Str.{all_ascii_digits}

-- 1 to 10 digits and nothing else
abbrev pub numeric : List ℕ → Bool
numeric w = nat_le 1 (length w) && (nat_le (length w) 10 && all_ascii_digits w)

-- each digit after the first makes the number so far ten times as large, and adds to it
abbrev pub decimal_value : List ℕ → ℕ
decimal_value w = fold (λ n b. n * 10 + (b - 48)) 0 w

abbrev pub number_of : List ℕ → Option ℕ
number_of w = cond (numeric w) (Some (decimal_value w)) None
