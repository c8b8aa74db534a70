-- What a draft ends as, where the script in it is lent.
use Rattle.std.specs.Prelude.{◌≡◌, Some, Ok, Err, Result}
use Rattle.std.specs.Borrow.{LendsIfOk, MutBor, Fml}
use Rattle.script.specs.declared.mistakes.Expected.TheVariants.{Opening}
use Rattle.script.specs.declared.mistakes.ScriptError.{ScriptError}
use Rattle.script_reader.specs.contracts.drafts.Draft.{the_row as draft_row}
use Rattle.script_reader.specs.contracts.scripts.Script.{the_row as script_row}
use Rattle.script_reader.specs.declared.scripts.Script.{Script}
use Rattle.script_reader.specs.Drafts.{Progress, draft, mistake, unwritten, written_of}

-- the draft keeps what is written to the script
abbrev pub LendsScript : MutBor Progress → Result (MutBor Script) ScriptError → Fml
LendsScript d r = LendsIfOk draft_row script_row d r (λ s. draft d.now.lines (Some s)) d.now

-- the script, or that there is none yet
abbrev pub HasScript : Result (MutBor Script) ScriptError → Progress → Type 0
HasScript (Ok s) d = d.so_far ≡ written_of (Some s.now)
HasScript (Err e) d = (d.so_far ≡ unwritten) × (e ≡ mistake d.lines Opening)
