use Rattle.std.proofs.Common.{◌-◌, length, take, drop, Some, None, rules}
use Rattle.std.proofs.lemmas.Iterator.{YieldsList-from_slice}
use Rattle.std.proofs.lemmas.Iterator.Search.{position_from_yields_List}
use Rattle.std.proofs.lemmas.List.{take_rest}
use borrow.Author.Tests.{tests}
use Rattle.script.specs.Words.{blank, solid}
use Rattle.script.proofs.Splitting.{no_word, word_between}
use Rattle.script.proofs.words.split_word.Goals as goal

pub returns-in_err-start : goal.returns-in_err-start
returns-in_err-start c =
    let none = position_from_yields_List solid _ _ None c.in_err-start.ensures.ran (YieldsList-from_slice c.args.line.now cc) (λ x b q k. search (rules, tests)) in
    rw c.from_residual.ensures (no_word c.args.line.now none)

pub returns : goal.returns
returns c =
    let rest = take (length c.args.line.now - c.in_ok-start.start) (drop c.in_ok-start.start c.args.line.now) in
    let some = position_from_yields_List solid _ _ (Some c.in_ok-start.start) c.in_ok-start.ensures.ran (YieldsList-from_slice c.args.line.now cc) (λ x b q k. search (rules, tests)) in
    let end = position_from_yields_List blank _ _ c.position-2.result c.position-2.ensures.ran (YieldsList-from_slice rest cc) (λ x b q k. search (rules, tests)) in
    rw (c.split_at.ensures.front, c.split_at.ensures.back) (word_between c.args.line.now rest c.in_ok-start.start c.unwrap_or-end.result some (take_rest c.args.line.now c.in_ok-start.start) (rw end at c.unwrap_or-end.ensures))
