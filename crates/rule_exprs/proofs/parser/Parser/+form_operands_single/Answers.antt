use Rattle.std.proofs.Common.{suc, map, ap, ◌∙◌}
use Rattle.std.proofs.lemmas.List.{map_push}
use Rattle.rule_exprs.specs.Formulas.{none, more, shape}
use Rattle.rule_exprs.specs.Grammar.{expression, gives}
use Rattle.rule_exprs.proofs.Fails.{passed_up}
use Rattle.rule_exprs.proofs.Members.{next_fails, none_left, member_fails, one_more, begun_gathered}
use Rattle.rule_exprs.proofs.parser.Parser.+form_operands_single.Goals as goal

pub operands-returns-in_err-token : goal.operands-returns-in_err-token
operands-returns-in_err-token t c = passed_up _ _ _ _ _ c.from_residual-in_err-token.ensures.1 (next_fails none more (expression (suc c.in_ok-inner.inner)) _ _ _ _ c.loop-operands.invariant _ (rw c.len.ensures at c.in_err-token.ensures.follows))

pub operands-returns-in_err-form : goal.operands-returns-in_err-form
operands-returns-in_err-form t c =
    let is = rw (c.len.ensures, c.in-Some.is) at c.in_ok-token.ensures.follows in
    passed_up _ _ _ _ _ c.from_residual-in_err-form.ensures.1 (member_fails none more (expression (suc c.in_ok-inner.inner)) _ _ _ _ c.loop-operands.invariant _ _ is _ c.in_err-form.ensures)

pub operands-loop-operands-preserved : goal.operands-loop-operands-preserved
operands-loop-operands-preserved t c =
    let is = rw (c.len.ensures, c.in-Some.is) at c.in_ok-token.ensures.follows in
    let room = rw (c.len.ensures, c.in-Some.is) at c.in_ok-token.ensures.room in
    let r = one_more none more (expression (suc c.in_ok-inner.inner)) _ _ _ _ c.loop-operands.invariant _ _ is _ _ room c.in_ok-form.ensures in
    rw (c.in_ok-push.ensures.items, c.in_ok-push.ensures.len, map_push) r

pub operands-returns : goal.operands-returns
operands-returns t c =
    let is = rw (c.len.ensures, c.in_default.is) at c.in_ok-token.ensures.follows in
    none_left none more (expression (suc c.in_ok-inner.inner)) _ _ _ _ c.loop-operands.invariant _ is ∙ ap (λ fs. gives fs c.member.new.self) (begun_gathered (map shape c.loop-operands.operands.items))
