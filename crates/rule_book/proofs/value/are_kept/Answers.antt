use Rattle.std.proofs.Common.{◌+◌, ◌&&◌, map, drop, sym, ap, ◌∙◌}
use Rattle.rule_text.specs.Statements.{stated}
use Rattle.rule_book.specs.Marking.{rule_marks, kept}
use Rattle.rule_book.proofs.Items.{drop_item}
use Rattle.rule_book.proofs.Shifted.{kept_after}
use Rattle.rule_book.proofs.value.are_kept.Goals as goal

pub loop-rule-preserved : goal.loop-rule-preserved
loop-rule-preserved c =
    let i = c.loop-rule.rule-index in
    let w = c.loop-rule.bits.left in
    let rules = c.args.rules.now in
    let r = c.rule-item.result in
    let rest = kept_after w _ (rule_marks (stated r)) c.keeps.ensures.left (map stated (drop (i + 1) rules)) c.args.point in
    rest
    ∙ ap (λ b. b && kept (map stated (drop (i + 1) rules)) w (0 + rule_marks (stated r)) c.args.point) (sym c.if-not-keeps.false ∙ c.keeps.ensures.kept)
    ∙ ap (λ l. kept (map stated l) w 0 c.args.point) (sym (drop_item rules i r c.loop-rule-test.true c.rule-item.is))
    ∙ c.loop-rule.invariant
