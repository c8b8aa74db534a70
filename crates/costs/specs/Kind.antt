-- Kinds of cost, and the laws that each of them keeps.
use Rattle.std.specs.Prelude.{◌≡◌, Bool, true, ◌⊎◌, ℕ}
use Rattle.streets.specs.declared.arc.Weight.{Weight}

-- A kind of cost: its letter, what a walk of no arcs costs, what one arc more makes of a cost, which cost is at most which, and the number that is told of a cost.
pub record Kind (V : Type 0) : Type 0 where
  pub letter : ℕ
  pub zero : V
  pub plus : V → Weight → V
  pub leq : V → V → Bool
  pub told : V → ℕ

-- The laws: any two costs compare; the order is transitive; an arc never lowers a cost; and an arc never turns the order of two costs.
-- Two costs may each be at most the other and yet differ: nothing here says that they are equal then.
pub record Lawful {V : Type 0} (K : Kind V) : Type 0 where
  pub total : (u v : V) → (K.leq u v ≡ true) ⊎ (K.leq v u ≡ true)
  pub trans : (u v w : V) → K.leq u v ≡ true → K.leq v w ≡ true → K.leq u w ≡ true
  pub grows : (v : V) (w : Weight) → K.leq v (K.plus v w) ≡ true
  pub keeps : (u v : V) (w : Weight) → K.leq u v ≡ true → K.leq (K.plus u w) (K.plus v w) ≡ true
