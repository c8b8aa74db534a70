-- What a test of bytes answers.
use Rattle.std.specs.Prelude.{◌≡◌, ℕ, ◌<◌, Bool}

-- each call of a closure, whose results are those of post, answers as the test does
abbrev pub IsTest : (ℕ → Bool → Type 0) → (ℕ → Bool) → Type 0
IsTest post test = (b : ℕ) (r : Bool) → b < 256 → post b r → r ≡ test b
