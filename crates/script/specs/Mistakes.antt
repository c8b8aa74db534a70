-- In which words a script's mistake is told. They stand here since a `Display` whose output is no definition would let any
-- words pass.
use Rattle.std.specs.Prelude.{ℕ, List, ◌++◌, codes, decimal}
use Rattle.script.specs.declared.mistakes.Expected.{Expected}
use Rattle.script.specs.declared.mistakes.Expected.TheVariants.{Opening, OneOpening, EarlierCapacity, EarlierCost, KnownWord, MapArguments, GridArguments, CapacityArguments, CostArguments, ShutArguments, ReopenArguments, ArcsArguments, Number, Text, SomeOpening}
use Rattle.script.specs.declared.mistakes.Mistake.{Mistake}
use Rattle.script.specs.declared.mistakes.ScriptError.{ScriptError}
use Rattle.script.specs.declared.mistakes.ScriptError.TheVariants.{Mistake as AMistake, Memory}

abbrev pub expected_text : Expected → List ℕ
expected_text Opening = codes "expected `map FILE` or `grid ROWS COLUMNS SECONDS CLIMB` as the first line"
expected_text OneOpening = codes "`map` and `grid` stand only on the first line"
expected_text EarlierCapacity = codes "`capacity` stands at most once, before `cost` and before any call"
expected_text EarlierCost = codes "`cost` stands at most once, before any call"
expected_text KnownWord = codes "unknown word: no line of a script begins so"
expected_text MapArguments = codes "`map` takes one word: a file"
expected_text GridArguments = codes "`grid` takes four numbers: rows, columns, seconds and climb"
expected_text CapacityArguments = codes "`capacity` takes one number: the units that fit aboard"
expected_text CostArguments = codes "`cost` takes one word: `s` for seconds or `c` for climb"
expected_text ShutArguments = codes "`shut` takes one number: an arc"
expected_text ReopenArguments = codes "`reopen` takes one number: an arc"
expected_text ArcsArguments = codes "`arcs` takes one number: a point"
expected_text Number = codes "a number has 1 to 10 digits"
expected_text Text = codes "the name of a file is text in UTF-8"
expected_text SomeOpening = codes "no opening line in the script: expected `map FILE` or `grid ROWS COLUMNS SECONDS CLIMB`"

-- at which line
abbrev pub mistake_text : Mistake → List ℕ
mistake_text m = codes "line " ++ (decimal m.line ++ (codes ": " ++ expected_text m.expected))

abbrev pub error_text : ScriptError → List ℕ
error_text (AMistake m) = mistake_text m
error_text Memory = codes "out of memory"
