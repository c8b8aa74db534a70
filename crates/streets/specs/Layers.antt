-- What shutting and reopening an arc do to a layer.
use Rattle.std.specs.Prelude.{◌≡◌, ℕ, ◌<◌, ◌≤◌, Bool, Result, MatchResult, slice_set}
use Rattle.streets.specs.declared.closures.ClosureLayer.{ClosureLayer}
use Rattle.streets.specs.declared.refusal.Refusal.{Refusal}
use Rattle.streets.specs.declared.refusal.Refusal.TheVariants.{ArcOutside}
use Rattle.streets.specs.Limits.{numbers_end}

-- The arc's one mark is put; or its number is above 4,095, which is refused, and nothing changes. The map below stays in any case.
pub record PutsMark {M : Type 0} (old new : ClosureLayer M) (arc : ℕ) (mark : Bool) (result : Result (Unit {0}) Refusal) : Type 0 where
  pub below : new.below ≡ old.below
  pub marks : MatchResult result (λ _. (arc < numbers_end) × (new.shut.table ≡ slice_set old.shut.table arc mark)) (λ e. (e ≡ ArcOutside) × (numbers_end ≤ arc) × (new.shut ≡ old.shut))
