-- What one line of a script says.
use Rattle.std.specs.Prelude.{ℕ, Bool, cond, List, [], ◌∷◌, Ok, Err, codes, Result, ◌==◌, slice_index}
use Rattle.std.specs.Str.{bytes_eq, is_utf8}
use Rattle.script.specs.declared.calls.Call.{Call}
use Rattle.script.specs.declared.calls.Call.TheVariants.{Shut, Reopen, Arcs}
use Rattle.script.specs.declared.calls.CostKind.{CostKind}
use Rattle.script.specs.declared.calls.CostKind.TheVariants.{Seconds, Climb}
use Rattle.script.specs.declared.lines.Line.{Line}
use Rattle.script.specs.declared.lines.Line.TheVariants.{Nothing, Map, Grid, Capacity, Cost, Makes}
use Rattle.script.specs.declared.mistakes.Expected.{Expected}
use Rattle.script.specs.declared.mistakes.Expected.TheVariants.{KnownWord, MapArguments, GridArguments, CapacityArguments, CostArguments, ShutArguments, ReopenArguments, ArcsArguments, Text}
use Rattle.script.specs.declared.verbs.Verb.{Verb}
use Rattle.script.specs.declared.verbs.Verb.TheVariants.{Map as VMap, Grid as VGrid, Capacity as VCapacity, Cost as VCost, Shut as VShut, Reopen as VReopen, Arcs as VArcs}
use Rattle.script.specs.declared.yards.Yard.{Yard}
use Rattle.script.specs.Arguments.{then, one_word, one_number, number_first}

pub data Opens : Type 0 where
  map : List ℕ → Opens
  grid : Yard → Opens

pub data Said : Type 0 where
  nothing : Said
  opens : Opens → Said
  capacity : ℕ → Said
  cost : CostKind → Said
  makes : Call → Said

abbrev pub named : List ℕ → Result Said Expected
named w = cond (is_utf8 w) (Ok (opens (map w))) (Err Text)

-- `map FILE`
abbrev pub map_says : List (List ℕ) → Result Said Expected
map_says ws = then (one_word MapArguments ws) named

-- `grid ROWS COLUMNS SECONDS CLIMB`
abbrev pub grid_says : List (List ℕ) → Result Said Expected
grid_says ws =
    then (number_first GridArguments ws) (λ rows. then (number_first GridArguments rows.1) (λ columns. then (number_first GridArguments columns.1) (λ seconds. then (one_number GridArguments seconds.1) (λ climb. Ok (opens (grid (record { rows = rows.0; columns = columns.0; seconds = seconds.0; climb = climb })))))))

abbrev pub kind : List ℕ → Result CostKind Expected
kind w = cond (bytes_eq w (codes "s")) (Ok Seconds) (cond (bytes_eq w (codes "c")) (Ok Climb) (Err CostArguments))

-- the word that a line begins with
abbrev pub verb_of : List ℕ → Result Verb Expected
verb_of w =
    cond (bytes_eq w (codes "map")) (Ok VMap)
    (cond (bytes_eq w (codes "grid")) (Ok VGrid)
    (cond (bytes_eq w (codes "capacity")) (Ok VCapacity)
    (cond (bytes_eq w (codes "cost")) (Ok VCost)
    (cond (bytes_eq w (codes "shut")) (Ok VShut)
    (cond (bytes_eq w (codes "reopen")) (Ok VReopen)
    (cond (bytes_eq w (codes "arcs")) (Ok VArcs) (Err KnownWord)))))))

-- the words after the first: a file; four numbers; a number of units; `s` or `c`; an arc; an arc; a point
abbrev pub verb_says : Verb → List (List ℕ) → Result Said Expected
verb_says VMap ws = map_says ws
verb_says VGrid ws = grid_says ws
verb_says VCapacity ws = then (one_number CapacityArguments ws) (λ n. Ok (capacity n))
verb_says VCost ws = then (then (one_word CostArguments ws) kind) (λ k. Ok (cost k))
verb_says VShut ws = then (one_number ShutArguments ws) (λ arc. Ok (makes (Shut arc)))
verb_says VReopen ws = then (one_number ReopenArguments ws) (λ arc. Ok (makes (Reopen arc)))
verb_says VArcs ws = then (one_number ArcsArguments ws) (λ point. Ok (makes (Arcs point)))

-- begins with `#`
abbrev pub comment : List ℕ → Bool
comment w = slice_index w 0 == 35

-- a blank line says nothing, nor does one whose first word begins with `#`
abbrev pub says : List (List ℕ) → Result Said Expected
says [] = Ok nothing
says (w ∷ ws) = cond (comment w) (Ok nothing) (then (verb_of w) (λ v. verb_says v ws))

abbrev pub said : Line → Said
said Nothing = nothing
said (Map path) = opens (map path.now)
said (Grid yard) = opens (grid yard)
said (Capacity n) = capacity n
said (Cost k) = cost k
said (Makes c) = makes c

abbrev pub seen : Result Line Expected → Result Said Expected
seen (Ok line) = Ok (said line)
seen (Err e) = Err e
