-- A shift by any number of places.
use Rattle.std.proofs.Common.{◌≡◌, ℕ, ◌/◌, ◌^◌, ◌<◌, ◌≤◌, cond, ltb, eqb, arith, pow_mono}
use Rattle.std.proofs.Math.Nat.{div-eq_of_lt}
use Rattle.std.proofs.lemmas.Bool.Decides.{nat_tests}
use Rattle.std.proofs.lemmas.Nat.{pow_pos, le-div}
use Rattle.policies.specs.Limits.{width_limit}

-- beyond the places of a word nothing is left of it
pub shr_any : (word place : ℕ) → word < 2 ^ width_limit → cond (ltb place width_limit) (word / 2 ^ place) 0 ≡ word / 2 ^ place
shr_any word place h =
    let past : width_limit ≤ place → 2 ^ width_limit ≤ 2 ^ place = λ far. pow_mono far in
    grind (arith, nat_tests, div-eq_of_lt, past)

pub shr_zero : (word width : ℕ) → eqb (word / 2 ^ width) 0 ≡ ltb word (2 ^ width)
shr_zero word width = grind (arith, nat_tests, div-eq_of_lt, le-div 1 word (2 ^ width) (pow_pos width))
