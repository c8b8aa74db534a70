use Rattle.std.proofs.Common.{suc, take}
use Rattle.std.specs.Fmt.{HasWritten, IsPlainFormatter}
use Rattle.answers.specs.Words.{arcs_words}
use Rattle.answers.proofs.ArcsWordsDisplay.fmt.Given as goal

abbrev pub invariant-loop-arc : goal.invariant-loop-arc
invariant-loop-arc g l =
    IsPlainFormatter l.fn.f → HasWritten g.W.Write.write_str_gives l.fn.f (arcs_words (take (suc l.arc-index) l.self.0.now)) l.f
