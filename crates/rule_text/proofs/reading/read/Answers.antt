use Rattle.std.proofs.Common.{map, vec_items, ap, ◌∙◌, rules, arith}
use Rattle.std.proofs.lemmas.List.{length-map, length_push, map_push}
use Rattle.rule_text.specs.Statements.{stated}
use Rattle.rule_text.proofs.Turns.{ended, one_came, refused}
use Rattle.rule_text.proofs.reading.read.Goals as goal

pub returns-in_err-rule : goal.returns-in_err-rule
returns-in_err-rule c =
    let bad = rw c.deref.ensures.value at c.in_err-rule.ensures.follows in
    let v = refused c.args.text.now c.if-text-gt-TEXT_LIMIT.false _ _ c.loop-rules.invariant.0 c.loop-rules.invariant.1 _ bad in
    search (rules, v)

pub loop-rules-preserved : goal.loop-rules-preserved
loop-rules-preserved c =
    let some = rw (c.in-Some.is, c.deref.ensures.value) at c.in_ok-rule.ensures.follows in
    let room = rw (c.in-Some.is, c.deref.ensures.value) at c.in_ok-rule.ensures.room in
    let items = ap (map stated) c.in_ok-push.ensures.items ∙ map_push stated (vec_items c.loop-rules.rules) c.in-Some.rule in
    rw items (simp (length_push, length-map) (omega (arith, room)), one_came c.args.text.now c.if-text-gt-TEXT_LIMIT.false _ _ c.loop-rules.invariant.0 c.loop-rules.invariant.1 _ _ some)

pub returns : goal.returns
returns c =
    let none = rw (c.in_default.is, c.deref.ensures.value) at c.in_ok-rule.ensures.follows in
    ended c.args.text.now c.if-text-gt-TEXT_LIMIT.false _ _ c.loop-rules.invariant.0 c.loop-rules.invariant.1 _ none
