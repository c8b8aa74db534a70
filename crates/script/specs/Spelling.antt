-- The lines that are written for an opening and for a call, and the word for a kind of cost.
use Rattle.std.specs.Prelude.{ℕ, List, ◌++◌, codes, decimal}
use Rattle.script.specs.declared.calls.Call.{Call}
use Rattle.script.specs.declared.calls.Call.TheVariants.{Shut, Reopen, Arcs}
use Rattle.script.specs.declared.calls.CostKind.{CostKind}
use Rattle.script.specs.declared.calls.CostKind.TheVariants.{Seconds, Climb}
use Rattle.script.specs.Lines.{Opens, map, grid}

abbrev pub kind_text : CostKind → List ℕ
kind_text Seconds = codes "s"
kind_text Climb = codes "c"

abbrev pub call_text : Call → List ℕ
call_text (Shut arc) = codes "shut " ++ decimal arc
call_text (Reopen arc) = codes "reopen " ++ decimal arc
call_text (Arcs point) = codes "arcs " ++ decimal point

abbrev pub opening_text : Opens → List ℕ
opening_text (map path) = codes "map " ++ path
opening_text (grid yard) = codes "grid " ++ (decimal yard.rows ++ (codes " " ++ (decimal yard.columns ++ (codes " " ++ (decimal yard.seconds ++ (codes " " ++ decimal yard.climb))))))
