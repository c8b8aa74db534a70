-- Seconds: added up, and stopped at the largest number of 32 bits.
use Rattle.std.specs.Prelude.{ℕ, ◌+◌, min, nat_le}
use Rattle.std.proofs.Math.Nat.{min-le_right}
use Rattle.costs.specs.declared.seconds.Seconds.{Seconds}
use Rattle.costs.specs.Limits.{seconds_most}
use Rattle.costs.specs.Kind.{Kind}

-- so many seconds, or the most there can be
abbrev pub capped : ℕ → Seconds
capped n = record { value = min n seconds_most; fits = min-le_right n seconds_most }

abbrev pub by_seconds : Kind Seconds
by_seconds = record {
  letter = 115;
  zero = capped 0;
  plus = λ v w. capped (v.value + w.seconds);
  leq = λ u v. nat_le u.value v.value;
  told = λ v. v.value;
}
