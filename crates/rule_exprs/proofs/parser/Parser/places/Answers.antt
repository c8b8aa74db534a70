use Rattle.std.proofs.Common.{[], ◌∷◌, ◌∙◌, ap}
use Rattle.rule_exprs.specs.Grammar.{a_place, gives}
use Rattle.rule_exprs.proofs.Fails.{passed_up}
use Rattle.rule_exprs.proofs.Members.{next_fails, none_left, member_fails, one_more, begun_list}
use Rattle.rule_exprs.proofs.parser.Parser.places.Goals as goal

pub returns-in_err-token : goal.returns-in_err-token
returns-in_err-token c = passed_up _ _ _ _ _ c.from_residual-in_err-token.ensures.1 (next_fails [] ◌∷◌ a_place _ _ _ _ c.loop-places.invariant _ (rw c.len.ensures at c.in_err-token.ensures.follows))

pub returns-in_err-place : goal.returns-in_err-place
returns-in_err-place c =
    let is = rw (c.len.ensures, c.in-Some.is) at c.in_ok-token.ensures.follows in
    passed_up _ _ _ _ _ c.from_residual-in_err-place.ensures.1 (member_fails [] ◌∷◌ a_place _ _ _ _ c.loop-places.invariant _ _ is _ c.in_err-place.ensures)

pub loop-places-preserved : goal.loop-places-preserved
loop-places-preserved c =
    let is = rw (c.len.ensures, c.in-Some.is) at c.in_ok-token.ensures.follows in
    let room = rw (c.len.ensures, c.in-Some.is) at c.in_ok-token.ensures.room in
    let r = one_more [] ◌∷◌ a_place _ _ _ _ c.loop-places.invariant _ _ is _ _ room c.in_ok-place.ensures in
    rw (c.in_ok-push.ensures.items, c.in_ok-push.ensures.len) r

pub returns : goal.returns
returns c =
    let is = rw (c.len.ensures, c.in_default.is) at c.in_ok-token.ensures.follows in
    none_left [] ◌∷◌ a_place _ _ _ _ c.loop-places.invariant _ is ∙ ap (λ xs. gives xs c.member.new.self) (begun_list c.loop-places.places.items)
