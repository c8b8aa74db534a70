use Rattle.std.proofs.Common.{codes, refl, arith}
use Rattle.std.proofs.lemmas.Slice.Eq.{text_from_reads}
use Rattle.script.proofs.verbs.VerbTryFromRefSliceU8.try_from.Goals as goal

pub returns-in-reopen : goal.returns-in-reopen
returns-in-reopen c = rw (text_from_reads c.args.word.now (codes "reopen") (omega arith) (omega arith, (omega arith, (omega arith, (omega arith, (omega arith, (omega arith, tt))))))) refl

pub returns-in-capacity : goal.returns-in-capacity
returns-in-capacity c = rw (text_from_reads c.args.word.now (codes "capacity") (omega arith) (omega arith, (omega arith, (omega arith, (omega arith, (omega arith, (omega arith, (omega arith, (omega arith, tt))))))))) refl
