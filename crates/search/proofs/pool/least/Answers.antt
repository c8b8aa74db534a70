use Rattle.std.proofs.Common.{◌≡◌, IfSome, sym, subst, arith}
use Rattle.std.proofs.lemmas.Grind.{common_steps}
use Rattle.search.specs.Links.{first, Waits}
use Rattle.search.proofs.Bests.{first_waits}
use Rattle.search.proofs.pool.least.Goals as goal

pub returns-clause-within : goal.returns-clause-within
returns-clause-within g c =
    let xs = c.args.labels.now in
    let is : c.loop-place.best ≡ first g.C.Cost.kind xs = grind (arith, common_steps) in
    subst (λ o. IfSome o (λ s. Waits xs s)) (sym is) (first_waits g.C.Cost.kind xs)
