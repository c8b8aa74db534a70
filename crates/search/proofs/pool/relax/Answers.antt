use Rattle.std.proofs.Common.{◌<◌, arith}
use Rattle.std.proofs.Math.Seq.{take-set-lt}
use Rattle.std.proofs.lemmas.Grind.{common_steps}
use Rattle.search.proofs.pool.relax.Goals as goal

pub returns-then-not-stays-clause-pinned : goal.returns-then-not-stays-clause-pinned
returns-then-not-stays-clause-pinned g c =
    let lt : c.in-Some.place < c.args.used = grind (arith, common_steps) in
    let kept = take-set-lt c.args.used c.args.pool.now c.in-Some.place c.args.new lt in
    grind (arith, common_steps, kept)
