use Rattle.std.proofs.Common.{Ok, rules}
use Rattle.rule_text.proofs.Loaded.{loaded}
use Rattle.rule_text.proofs.book.Book.load.Goals as goal

pub returns-in_err-self-clause-loads : goal.returns-in_err-self-clause-loads
returns-in_err-self-clause-loads c = loaded _ _ _ _ (search rules)

pub returns-clause-loads : goal.returns-clause-loads
returns-clause-loads c = loaded (Ok tt) c.args.text.now c.args.self.now (record { rules = c.in_ok-self.field-0 }) c.in_ok-self.ensures
