use Rattle.std.proofs.Common.{◌-◌, [], ◌∷◌, vec_items, vec_len}
use Rattle.rule_exprs.specs.Limits.{members_limit}
use Rattle.rule_exprs.specs.Grammar.{a_place, group, members}
use Rattle.rule_exprs.proofs.Members.{Read}
use Rattle.rule_exprs.proofs.parser.Parser.places.Given as goal

abbrev pub invariant-loop-places : goal.invariant-loop-places
invariant-loop-places l = Read [] ◌∷◌ a_place (group l.fn.place l.fn.depth (members [] ◌∷◌ a_place members_limit 0) l.fn.self) (vec_items l.places) (vec_len l.places) l.self

abbrev pub decreases-loop-places : goal.decreases-loop-places
decreases-loop-places l = members_limit - vec_len l.places
