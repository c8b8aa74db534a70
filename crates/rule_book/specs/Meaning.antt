-- What rules mean, on the events of a walk alone.
use Rattle.std.specs.Prelude.{◌≡◌, ℕ, Bool, true, false, not, ◌&&◌, ◌||◌, List, map, ◌==◌}
use Rattle.std.specs.List.{AllByRecursion}
use Rattle.policies.specs.declared.step.Step.{Step}
use Rattle.policies.specs.Automaton.{final}
use Rattle.rule_exprs.specs.declared.expr.Place.TheVariants as place
use Rattle.rule_exprs.specs.Formulas.{Formula, at_point, use_arc, from_point, to_point, negation, conjunction, disjunction, sequence, Formulas, none, more}
use Rattle.rule_text.specs.declared.rule.RuleKind.{RuleKind}
use Rattle.rule_text.specs.declared.rule.RuleKind.TheVariants as kind
use Rattle.rule_text.specs.Statements.{Statement}
use Rattle.rule_book.specs.Events.{meets, events, in_order, ever}

-- What holds of a walk: `at` where it is ever at the point, `use` where it ever crosses the arc, `from` where it starts at the point,
-- `to` where it ends there, `seq` where its places come in that order, each at a later event than the one before.
abbrev mutual
  pub holds : Formula → ℕ → List Step → Bool
  holds (at_point n) p ss = ever (meets (place.At n)) (events p ss)
  holds (use_arc n) p ss = ever (meets (place.Use n)) (events p ss)
  holds (from_point n) p ss = n == p
  holds (to_point n) p ss = n == final p ss
  holds (negation f) p ss = not (holds f p ss)
  holds (conjunction fs) p ss = all_hold fs p ss
  holds (disjunction fs) p ss = one_holds fs p ss
  holds (sequence ps) p ss = in_order (map meets ps) (events p ss)

  pub all_hold : Formulas → ℕ → List Step → Bool
  all_hold none p ss = true
  all_hold (more f fs) p ss = holds f p ss && all_hold fs p ss

  pub one_holds : Formulas → ℕ → List Step → Bool
  one_holds none p ss = false
  one_holds (more f fs) p ss = holds f p ss || one_holds fs p ss

-- A ban is broken where condition and consequence both hold, a need where the condition holds and the consequence does not.
abbrev pub breaks : RuleKind → Bool → Bool → Bool
breaks kind.Ban condition consequence = condition && consequence
breaks kind.Need condition consequence = condition && not consequence

abbrev pub broken : Statement → ℕ → List Step → Bool
broken r p ss = breaks r.kind (holds r.condition p ss) (holds r.consequence p ss)

-- Permitted are the walks that break no rule.
abbrev pub Permits : List Statement → ℕ → List Step → Type 0
Permits rs p ss = AllByRecursion (λ r. broken r p ss ≡ false) rs
