-- The events of a walk, and which of them a place stands for.
use Rattle.std.specs.Prelude.{ℕ, Bool, true, false, ◌&&◌, ◌||◌, List, [], ◌∷◌, ◌==◌}
use Rattle.policies.specs.declared.step.Step.{Step}
use Rattle.rule_exprs.specs.declared.expr.Place.{Place}
use Rattle.rule_exprs.specs.declared.expr.Place.TheVariants.{At, Use}
use Rattle.rule_book.specs.declared.event.Event.{Event}
use Rattle.rule_book.specs.declared.event.Event.TheVariants.{Depart, Cross, Arrive}

-- a place stands for each event that is at its point (a departure or an arrival), or that crosses its arc
abbrev pub meets : Place → Event → Bool
meets (At v) (Depart p) = v == p
meets (At v) (Cross n) = false
meets (At v) (Arrive p) = v == p
meets (Use v) (Depart p) = false
meets (Use v) (Cross n) = v == n
meets (Use v) (Arrive p) = false

-- the departure from a point
abbrev pub departs : ℕ → Event → Bool
departs v (Depart p) = v == p
departs v (Cross n) = false
departs v (Arrive p) = false

-- after the departure: for each step the crossing of its arc, then the arrival at its head
abbrev pub onward : List Step → List Event
onward [] = []
onward (s ∷ ss) = Cross s.number ∷ (Arrive s.head ∷ onward ss)

-- the events of a walk, in their order
abbrev pub events : ℕ → List Step → List Event
events p ss = Depart p ∷ onward ss

-- Events can be chosen that pass the tests one by one, each a later event than the one before.
abbrev pub in_order : List (Event → Bool) → List Event → Bool
in_order [] es = true
in_order (q ∷ qs) [] = false
in_order (q ∷ qs) (e ∷ es) = (q e && in_order qs es) || in_order (q ∷ qs) es

-- some event passes the test
abbrev pub ever : (Event → Bool) → List Event → Bool
ever q es = in_order (q ∷ []) es
