-- One slot more of a list.
use Rattle.std.specs.Prelude.{◌≡◌, ℕ, ◌+◌, ◌++◌, Option}
use Rattle.std.proofs.Common.{ap, ◌∙◌, add-one}
use Rattle.std.specs.Option.{option_to_list}
use Rattle.streets.specs.declared.arc.Arc.{Arc}
use Rattle.streets.specs.Network.{listed}

pub listed_more : (f : ℕ → Option Arc) (k : ℕ) (o : Option Arc) → f k ≡ o → listed f (k + 1) ≡ listed f k ++ option_to_list o
listed_more f k o e = ap (listed f) (add-one k) ∙ ap (λ x. listed f k ++ option_to_list x) e
