-- Both kinds of cost keep the laws.
use Rattle.std.proofs.Common.{rules}
use Rattle.costs.specs.Kind.{Lawful}
use Rattle.costs.specs.Seconds.{by_seconds}
use Rattle.costs.specs.Climb.{by_climb}

pub seconds_lawful : Lawful by_seconds
seconds_lawful = search rules

pub climb_lawful : Lawful by_climb
climb_lawful = search rules
