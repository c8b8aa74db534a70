-- What is told where a file or an input cannot be read.
use Rattle.std.specs.Prelude.{◌≡◌, ℕ, List, string_bytes}
use Rattle.std.specs.declared.io.Error.{Error}
use Rattle.fatskhole.specs.declared.stop.Stop.{Stop}
use Rattle.fatskhole.specs.declared.stop.Stop.TheVariants.{Usage, Unreadable, Script, MapRefused, Output, Memory}

-- its name and the error as they came, or that there was no memory for the name
abbrev pub TellsUnreadable : Stop → List ℕ → Error → Type 0
TellsUnreadable (Unreadable name error) what why = (string_bytes name ≡ what) × (error ≡ why)
TellsUnreadable (Memory e) what why = Unit {0}
TellsUnreadable Usage what why = ⊥
TellsUnreadable (Script e) what why = ⊥
TellsUnreadable MapRefused what why = ⊥
TellsUnreadable (Output e) what why = ⊥
