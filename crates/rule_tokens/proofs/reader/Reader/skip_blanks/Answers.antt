use Rattle.std.proofs.Common.{refl, rules}
use Rattle.rule_tokens.specs.Lex.{blank}
use Rattle.rule_tokens.proofs.Steps.{past, stops}
use Rattle.rule_tokens.proofs.reader.Reader.skip_blanks.Goals as goal

pub returns : goal.returns
returns c =
    let s = c.args.self.now.cursor.rest.now in
    let len = c.run_len-len.ensures.run blank (λ b r small k. search rules) in
    rw (c.take.ensures.rest, c.take.ensures.place, len) (record { same = past s c.args.self.now.cursor.place; none = stops blank refl s })
