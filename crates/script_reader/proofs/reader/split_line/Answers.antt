use Rattle.std.proofs.Common.{◌+◌, Some, None, ◌==◌, rules}
use Rattle.std.proofs.lemmas.Iterator.{YieldsList-from_slice}
use Rattle.std.proofs.lemmas.Iterator.Search.{position_from_yields_List}
use Rattle.std.proofs.lemmas.List.{take_rest}
use borrow.Author.Tests.{tests}
use Rattle.script_reader.proofs.Cutting.{first_line, last_line}
use Rattle.script_reader.proofs.reader.split_line.Goals as goal

pub returns-in_err-end : goal.returns-in_err-end
returns-in_err-end c =
    let none = position_from_yields_List (λ b. b == 10) _ _ None c.in_err-end.ensures.ran (YieldsList-from_slice c.args.text.now cc) (λ x b q k. search (rules, tests)) in
    rw c.from_residual.ensures (last_line c.args.text.now none)

pub returns : goal.returns
returns c =
    let some = position_from_yields_List (λ b. b == 10) _ _ (Some c.in_ok-end.end) c.in_ok-end.ensures.ran (YieldsList-from_slice c.args.text.now cc) (λ x b q k. search (rules, tests)) in
    first_line c.args.text.now c.without_return.result.now _ c.in_ok-end.end some c.without_return.ensures (take_rest c.args.text.now (c.in_ok-end.end + 1))
