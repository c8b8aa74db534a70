-- Which scripts are right, and that lines are written as they are read.
use Rattle.std.specs.Prelude.{◌≡◌, ℕ, List, [], ◌∷◌, ◌++◌, map, Some, None, Ok, Err, vec_items, Option, Result, ◌≢◌}
use Rattle.std.specs.List.{AllByRecursion}
use Rattle.script.specs.declared.calls.Call.{Call}
use Rattle.script.specs.declared.calls.CostKind.{CostKind}
use Rattle.script_reader.specs.declared.scripts.Script.{Script}
use Rattle.script.specs.declared.mistakes.Expected.{Expected}
use Rattle.script.specs.declared.mistakes.ScriptError.{ScriptError}
use Rattle.script.specs.declared.mistakes.ScriptError.TheVariants.{Mistake, Memory}
use Rattle.script.specs.Words.{words_of}
use Rattle.script.specs.Lines.{Said, nothing, opens, capacity, cost, makes, Opens, says}
use Rattle.script_reader.specs.Reading.{lines_of}
use Rattle.script.specs.Spelling.{call_text, opening_text}
use Rattle.script_reader.specs.Drafts.{opens_of}

-- one line more in front, unless it says nothing
abbrev pub heard : Result Said Expected → List (Result Said Expected) → List (Result Said Expected)
heard (Ok nothing) rs = rs
heard (Ok (opens o)) rs = Ok (opens o) ∷ rs
heard (Ok (capacity n)) rs = Ok (capacity n) ∷ rs
heard (Ok (cost k)) rs = Ok (cost k) ∷ rs
heard (Ok (makes c)) rs = Ok (makes c) ∷ rs
heard (Err e) rs = Err e ∷ rs

-- what the lines say one by one, without those that say nothing
abbrev pub told : List (List ℕ) → List (Result Said Expected)
told [] = []
told (l ∷ ls) = heard (says (words_of l)) (told ls)

abbrev pub capacity_lines : Option ℕ → List (Result Said Expected)
capacity_lines None = []
capacity_lines (Some n) = Ok (capacity n) ∷ []

abbrev pub cost_lines : Option CostKind → List (Result Said Expected)
cost_lines None = []
cost_lines (Some k) = Ok (cost k) ∷ []

-- an opening, a capacity if there is one, a cost if there is one, and the calls
abbrev pub spelled : Opens → Option ℕ → Option CostKind → List Call → List (Result Said Expected)
spelled o n k cs = Ok (opens o) ∷ (capacity_lines n ++ (cost_lines k ++ map (λ c. Ok (makes c)) cs))

-- a script is read just where the lines spell one: the one that they spell, and a mistake is told only where they spell none
abbrev pub Accepts : Result Script ScriptError → List ℕ → Type 0
Accepts (Ok s) text = told (lines_of text) ≡ spelled (opens_of s.opening) s.capacity s.cost (vec_items s.calls)
Accepts (Err (Mistake m)) text = (o : Opens) (n : Option ℕ) (k : Option CostKind) (cs : List Call) → told (lines_of text) ≢ spelled o n k cs
Accepts (Err Memory) text = Unit {0}

-- the line that is written for an opening says that opening
abbrev pub OpeningReadsBack : Opens → Type 0
OpeningReadsBack o = says (words_of (opening_text o)) ≡ Ok (opens o)

-- the line that is written for a call says that call
abbrev pub CallReadsBack : Call → Type 0
CallReadsBack c = says (words_of (call_text c)) ≡ Ok (makes c)

-- so it is with the opening and the calls of every script that is read
abbrev pub ReadsBack : Result Script ScriptError → Type 0
ReadsBack (Ok s) = OpeningReadsBack (opens_of s.opening) × AllByRecursion CallReadsBack (vec_items s.calls)
ReadsBack (Err e) = Unit {0}
