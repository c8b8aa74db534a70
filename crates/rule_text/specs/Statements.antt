-- What a book states: its rules without their boxes, in the order of the text.
use Rattle.std.specs.Prelude.{ℕ, List, map, vec_items}
use Rattle.rule_exprs.specs.Formulas.{Formula, shape}
use Rattle.rule_text.specs.declared.rule.RuleKind.{RuleKind}
use Rattle.rule_text.specs.declared.rule.Rule.{Rule}
use Rattle.rule_text.specs.declared.book.Book.{Book}

pub record Statement : Type 0 where
  pub kind : RuleKind
  pub number : ℕ
  pub condition : Formula
  pub consequence : Formula

abbrev pub stated : Rule → Statement
stated r = record { kind = r.kind; number = r.number; condition = shape r.condition; consequence = shape r.consequence }

abbrev pub contents : Book → List Statement
contents b = map stated (vec_items b.rules)
