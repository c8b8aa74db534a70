-- In which order the lines of a script stand.
use Rattle.std.specs.Prelude.{◌≡◌, ℕ, cond, not, ◌||◌, List, [], ◌∷◌, ◌++◌, length, is_some, Some, None, Ok, Err, vec_items, string_bytes, Option, Result, ◌==◌}
use Rattle.script.specs.declared.calls.Call.{Call}
use Rattle.script.specs.declared.calls.CostKind.{CostKind}
use Rattle.script_reader.specs.declared.scripts.Opening.{Opening}
use Rattle.script_reader.specs.declared.scripts.Opening.TheVariants.{Map, Grid}
use Rattle.script_reader.specs.declared.scripts.Script.{Script}
use Rattle.script.specs.declared.mistakes.Expected.{Expected}
use Rattle.script.specs.declared.mistakes.Expected.TheVariants.{Opening as AnOpening, OneOpening, EarlierCapacity, EarlierCost, SomeOpening}
use Rattle.script.specs.declared.mistakes.ScriptError.{ScriptError}
use Rattle.script.specs.declared.mistakes.ScriptError.TheVariants.{Mistake as AMistake, Memory}
use Rattle.script.specs.Lines.{Said, nothing, opens, capacity, cost, makes, Opens, map, grid}

-- what the lines so far say: nothing before the opening, then the opening, the header, and the calls in their order
pub data Written : Type 0 where
  unwritten : Written
  written : Opens → Option ℕ → Option CostKind → List Call → Written

-- at most one opening
abbrev pub opened : Written → Opens → Result Written Expected
opened unwritten o = Ok (written o None None [])
opened (written p n k cs) o = Err OneOpening

-- after the opening, and before the cost and the calls
abbrev pub with_capacity : Written → ℕ → Result Written Expected
with_capacity unwritten n = Err AnOpening
with_capacity (written o m k cs) n = cond (is_some m || (is_some k || not (length cs == 0))) (Err EarlierCapacity) (Ok (written o (Some n) k cs))

-- after the opening, and before the calls
abbrev pub with_cost : Written → CostKind → Result Written Expected
with_cost unwritten k = Err AnOpening
with_cost (written o n j cs) k = cond (is_some j || not (length cs == 0)) (Err EarlierCost) (Ok (written o n (Some k) cs))

abbrev pub with_call : Written → Call → Result Written Expected
with_call unwritten c = Err AnOpening
with_call (written o n k cs) c = Ok (written o n k (cs ++ c ∷ []))

-- one line more
abbrev pub step : Written → Said → Result Written Expected
step s nothing = Ok s
step s (opens o) = opened s o
step s (capacity n) = with_capacity s n
step s (cost k) = with_cost s k
step s (makes c) = with_call s c

-- what a whole script is read as
pub data Outcome : Type 0 where
  script : Opens → Option ℕ → Option CostKind → List Call → Outcome
  wrong : ℕ → Expected → Outcome

-- after n lines, which are all
abbrev pub finish : ℕ → Written → Outcome
finish n unwritten = wrong n SomeOpening
finish n (written o m k cs) = script o m k cs

-- the values of the code's types
abbrev pub opens_of : Opening → Opens
opens_of (Map path) = map (string_bytes path)
opens_of (Grid yard) = grid yard

abbrev pub written_of : Option Script → Written
written_of None = unwritten
written_of (Some s) = written (opens_of s.opening) s.capacity s.cost (vec_items s.calls)

-- what a clause sees of a draft: how many lines were read, and what they say
pub record Progress : Type 0 where
  pub lines : ℕ
  pub so_far : Written

abbrev pub draft : ℕ → Option Script → Progress
draft n s = record { lines = n; so_far = written_of s }

abbrev pub script_of : Script → Outcome
script_of s = script (opens_of s.opening) s.capacity s.cost (vec_items s.calls)

abbrev pub mistake : ℕ → Expected → ScriptError
mistake n e = AMistake (record { line = n; expected = e })

-- the line with the number n was taken, where memory did not fail: the draft says s, or that line is wrong
abbrev pub Takes : Result (Unit {0}) ScriptError → ℕ → Result Written Expected → Progress → Type 0
Takes (Ok u) n s after = (s ≡ Ok after.so_far) × (after.lines ≡ n)
Takes (Err (AMistake m)) n s after = (s ≡ Err m.expected) × (m.line ≡ n)
Takes (Err Memory) n s after = Unit {0}

-- the script was read so, where memory did not fail
abbrev pub Ends : Result Script ScriptError → Outcome → Type 0
Ends (Ok s) o = o ≡ script_of s
Ends (Err (AMistake m)) o = o ≡ wrong m.line m.expected
Ends (Err Memory) o = Unit {0}
