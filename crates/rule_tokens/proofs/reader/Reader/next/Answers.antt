use Rattle.std.proofs.Common.{sym, ap, ◌∙◌, rules, arith}
use Rattle.std.proofs.lemmas.Result.{err_from_is_err_and}
use Rattle.rule_tokens.specs.Lex.{letter, digit, head, shift}
use Rattle.rule_tokens.proofs.Steps.{worded, numbered, run_passes}
use Rattle.rule_tokens.proofs.reader.Reader.next.Goals as goal

pub number-requires : goal.number-requires
number-requires c = λ k. run_passes digit _ _ _ k (c.run_len-len.ensures.run digit (λ b r small k. search rules)) c.take-in-0-to-9.ensures.taken

pub returns-in_err-value-in-0-to-9 : goal.returns-in_err-value-in-0-to-9
returns-in_err-value-in-0-to-9 c =
    let len = c.run_len-len.ensures.run digit (λ b r small k. search rules) in
    let t = c.take-in-0-to-9.ensures in
    let e = sym c.skip_blanks.ensures.same ∙ numbered _ _ _ _ _ _ len t.taken t.rest t.place (grind arith) (grind arith) in
    let q = err_from_is_err_and c.from_residual.result c.from_residual.ensures.1 in
    let f = c.in_err-value-in-0-to-9.ensures in
    rw (q.1, q.2) (_, f.1, rw f.0 at (ap head e))

pub returns-in_ok-value-in-0-to-9 : goal.returns-in_ok-value-in-0-to-9
returns-in_ok-value-in-0-to-9 c =
    let len = c.run_len-len.ensures.run digit (λ b r small k. search rules) in
    let t = c.take-in-0-to-9.ensures in
    let f = c.in_ok-value-in-0-to-9.ensures in
    let e = rw (f.0, ← f.1) at (sym c.skip_blanks.ensures.same ∙ numbered _ _ _ _ _ _ len t.taken t.rest t.place (grind arith) (grind arith)) in
    (ap head e, sym (ap shift e))

pub returns-in-a-to-z : goal.returns-in-a-to-z
returns-in-a-to-z c =
    let len = c.run_len-len-in-a-to-z.ensures.run letter (λ b r small k. search rules) in
    let t = c.take-in-a-to-z.ensures in
    let e = sym c.skip_blanks.ensures.same ∙ worded _ _ _ _ _ _ len t.taken t.rest t.place (grind arith) (grind arith) in
    (ap head e, sym (ap shift e))
