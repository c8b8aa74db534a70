use Rattle.std.proofs.Common.{◌≡◌, drop}
use Rattle.std.specs.List.{position_from}
use Rattle.search_laws.specs.Search.{is_at}
use Rattle.search.specs.Links.{bare, place}
use Rattle.search.proofs.pool.find.Given as goal

abbrev pub invariant-loop-place : goal.invariant-loop-place
invariant-loop-place g l =
    place l.state.point l.state.word l.labels ≡ position_from (λ x. is_at l.state.point l.state.word (bare x)) l.place (drop l.place l.labels)
