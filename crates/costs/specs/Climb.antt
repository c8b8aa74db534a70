-- Climb: the greater of the cost so far and the arc's climb.
use Rattle.std.specs.Prelude.{max, nat_le}
use Rattle.costs.specs.declared.climb.Climb.{Climb}
use Rattle.costs.specs.Kind.{Kind}

abbrev pub by_climb : Kind Climb
by_climb = record {
  letter = 99;
  zero = record { value = 0 };
  plus = λ v w. record { value = max v.value w.climb };
  leq = λ u v. nat_le u.value v.value;
  told = λ v. v.value;
}
