use Rattle.std.proofs.Common.{suc, ◌+◌, ◌-◌, ◌*◌, map, vec_items, vec_len}
use Rattle.rule_exprs.specs.Limits.{members_limit}
use Rattle.rule_exprs.specs.Formulas.{none, more, shape}
use Rattle.rule_exprs.specs.Grammar.{expression, group, members}
use Rattle.rule_exprs.proofs.Members.{Read}
use Rattle.rule_exprs.proofs.parser.Parser.+form_operands_single.Given as goal

-- a bracket lowers the depth
abbrev pub decreases-form : goal.decreases-form
decreases-form l = 2 * l.depth + 1

abbrev pub decreases-single : goal.decreases-single
decreases-single l = 2 * l.depth

abbrev pub decreases-operands : goal.decreases-operands
decreases-operands l = 2 * l.depth

abbrev pub invariant-operands-loop-operands : goal.invariant-operands-loop-operands
invariant-operands-loop-operands l = Read none more (expression (suc l.inner)) (group l.fn.place l.fn.depth (members none more (expression l.fn.depth) members_limit 0) l.fn.self) (map shape (vec_items l.operands)) (vec_len l.operands) l.self

abbrev pub decreases-operands-loop-operands : goal.decreases-operands-loop-operands
decreases-operands-loop-operands l = members_limit - vec_len l.operands
