-- A script is read just where its lines spell one.
use Rattle.std.proofs.Common.{◌≡◌, ℕ, ◌+◌, false, eqb, List, [], ◌∷◌, ◌++◌, map, length, Some, None, Ok, Err, Option, Result, sym, refl, ap, ◌∙◌, subst, append_assoc, arith}
use Rattle.std.proofs.lemmas.List.{append-nil, map-append}
use Rattle.std.proofs.lemmas.Bool.Decides.{nat_tests}
use Rattle.script.specs.declared.calls.Call.{Call}
use Rattle.script.specs.declared.calls.CostKind.{CostKind}
use Rattle.script_reader.specs.declared.scripts.Script.{Script}
use Rattle.script.specs.declared.mistakes.Expected.{Expected}
use Rattle.script.specs.declared.mistakes.ScriptError.{ScriptError}
use Rattle.script.specs.declared.mistakes.ScriptError.TheVariants.{Mistake, Memory}
use Rattle.script.specs.Words.{words_of}
use Rattle.script.specs.Arguments.{then}
use Rattle.script.specs.Lines.{Said, nothing, opens, capacity, cost, makes, Opens, says}
use Rattle.script_reader.specs.Drafts.{Written, written, unwritten, step, Outcome, script, wrong, finish, Ends}
use Rattle.script_reader.specs.Reading.{lines_of, or_wrong, read_from, read_of}
use Rattle.script_reader.specs.Laws.{heard, told, spelled, Accepts}

-- the lines rs spell what was read
abbrev Agrees : Outcome → List (Result Said Expected) → Type 0
Agrees (script o n k cs) rs = rs ≡ spelled o n k cs
Agrees (wrong m e) rs = Unit {0}

some_calls : (c : Call) (cs : List Call) → eqb (length (c ∷ cs)) 0 ≡ false
some_calls c cs = grind (arith, nat_tests)

one_call_more : (n : Option ℕ) (k : Option CostKind) (o : Opens) (cs : List Call) (c : Call) (rs : List (Result Said Expected)) → spelled o n k (cs ++ c ∷ []) ++ rs ≡ spelled o n k cs ++ (Ok (makes c) ∷ rs)
one_call_more n k o cs c rs = simp (map-append, append_assoc)

-- what is known of the lines ls after the opening
abbrev After : List (List ℕ) → Type 0
After ls = (m : ℕ) (o : Opens) (n : Option ℕ) (k : Option CostKind) (cs : List Call) → Agrees (read_from m (written o n k cs) ls) (spelled o n k cs ++ told ls)

capacity_after : (ls : List (List ℕ)) (m : ℕ) → After ls → (o : Opens) (n : Option ℕ) (k : Option CostKind) (cs : List Call) (u : ℕ)
    → Agrees (or_wrong (step (written o n k cs) (capacity u)) m (λ t. read_from m t ls)) (spelled o n k cs ++ (Ok (capacity u) ∷ told ls))
capacity_after ls m more o (Some x) k cs u = tt
capacity_after ls m more o None (Some j) cs u = tt
capacity_after ls m more o None None [] u = more m o (Some u) None []
capacity_after ls m more o None None (c ∷ cs) u = rw (some_calls c cs) tt

cost_after : (ls : List (List ℕ)) (m : ℕ) → After ls → (o : Opens) (n : Option ℕ) (k : Option CostKind) (cs : List Call) (j : CostKind)
    → Agrees (or_wrong (step (written o n k cs) (cost j)) m (λ t. read_from m t ls)) (spelled o n k cs ++ (Ok (cost j) ∷ told ls))
cost_after ls m more o n (Some i) cs j = tt
cost_after ls m more o None None [] j = more m o None (Some j) []
cost_after ls m more o (Some u) None [] j = more m o (Some u) (Some j) []
cost_after ls m more o n None (c ∷ cs) j = rw (some_calls c cs) tt

line_after : (ls : List (List ℕ)) (m : ℕ) → After ls → (o : Opens) (n : Option ℕ) (k : Option CostKind) (cs : List Call) (r : Result Said Expected)
    → Agrees (or_wrong (then r (step (written o n k cs))) m (λ t. read_from m t ls)) (spelled o n k cs ++ heard r (told ls))
line_after ls m more o n k cs (Err e) = tt
line_after ls m more o n k cs (Ok nothing) = more m o n k cs
line_after ls m more o n k cs (Ok (opens p)) = tt
line_after ls m more o n k cs (Ok (capacity u)) = capacity_after ls m more o n k cs u
line_after ls m more o n k cs (Ok (cost j)) = cost_after ls m more o n k cs j
line_after ls m more o n k cs (Ok (makes c)) = subst (Agrees (read_from m (written o n k (cs ++ c ∷ [])) ls)) (one_call_more n k o cs c (told ls)) (more m o n k (cs ++ c ∷ []))

after : (ls : List (List ℕ)) → After ls
after [] m o n k cs = append-nil (spelled o n k cs)
after (l ∷ ls) m o n k cs = line_after ls (m + 1) (after ls) o n k cs (says (words_of l))

line_before : (ls : List (List ℕ)) (m : ℕ) → Agrees (read_from m unwritten ls) (told ls) → (r : Result Said Expected) → Agrees (or_wrong (then r (step unwritten)) m (λ t. read_from m t ls)) (heard r (told ls))
line_before ls m more (Err e) = tt
line_before ls m more (Ok nothing) = more
line_before ls m more (Ok (opens o)) = after ls m o None None []
line_before ls m more (Ok (capacity n)) = tt
line_before ls m more (Ok (cost k)) = tt
line_before ls m more (Ok (makes c)) = tt

from_start : (ls : List (List ℕ)) (m : ℕ) → Agrees (read_from m unwritten ls) (told ls)
from_start [] m = tt
from_start (l ∷ ls) m = line_before ls (m + 1) (from_start ls (m + 1)) (says (words_of l))

-- where a mistake stands is no matter here
abbrev placeless : Outcome → Outcome
placeless (script o n k cs) = script o n k cs
placeless (wrong m e) = wrong 0 e

-- the same run over what the lines say
abbrev run : Written → List (Result Said Expected) → Outcome
run s [] = finish 0 s
run s (r ∷ rs) = or_wrong (then r (step s)) 0 (λ t. run t rs)

abbrev SameRun : List (List ℕ) → Type 0
SameRun ls = (m : ℕ) (s : Written) → placeless (read_from m s ls) ≡ placeless (run s (told ls))

either_way : (ls : List (List ℕ)) (m : ℕ) → SameRun ls → (q : Result Written Expected) → placeless (or_wrong q m (λ t. read_from m t ls)) ≡ placeless (or_wrong q 0 (λ t. run t (told ls)))
either_way ls m more (Ok t) = more m t
either_way ls m more (Err e) = refl

one_line : (ls : List (List ℕ)) (m : ℕ) → SameRun ls → (s : Written) (r : Result Said Expected) → placeless (or_wrong (then r (step s)) m (λ t. read_from m t ls)) ≡ placeless (run s (heard r (told ls)))
one_line ls m more s (Err e) = refl
one_line ls m more s (Ok nothing) = more m s
one_line ls m more s (Ok (opens o)) = either_way ls m more (step s (opens o))
one_line ls m more s (Ok (capacity n)) = either_way ls m more (step s (capacity n))
one_line ls m more s (Ok (cost k)) = either_way ls m more (step s (cost k))
one_line ls m more s (Ok (makes c)) = either_way ls m more (step s (makes c))

same_end : (m : ℕ) (s : Written) → placeless (finish m s) ≡ placeless (finish 0 s)
same_end m unwritten = refl
same_end m (written o n k cs) = refl

same_run : (ls : List (List ℕ)) → SameRun ls
same_run [] m s = same_end m s
same_run (l ∷ ls) m s = one_line ls (m + 1) (same_run ls) s (says (words_of l))

run_calls : (ds cs : List Call) (o : Opens) (n : Option ℕ) (k : Option CostKind) → run (written o n k cs) (map (λ c. Ok (makes c)) ds) ≡ script o n k (cs ++ ds)
run_calls [] cs o n k = ap (script o n k) (sym (append-nil cs))
run_calls (d ∷ ds) cs o n k = run_calls ds (cs ++ d ∷ []) o n k ∙ ap (script o n k) (append_assoc cs (d ∷ []) ds)

run_spelled : (o : Opens) (n : Option ℕ) (k : Option CostKind) (cs : List Call) → run unwritten (spelled o n k cs) ≡ script o n k cs
run_spelled o None None cs = run_calls cs [] o None None
run_spelled o None (Some k) cs = run_calls cs [] o None (Some k)
run_spelled o (Some n) None cs = run_calls cs [] o (Some n) None
run_spelled o (Some n) (Some k) cs = run_calls cs [] o (Some n) (Some k)

none_spelled : (text : List ℕ) (m : ℕ) (e : Expected) → read_of text ≡ wrong m e → (o : Opens) (n : Option ℕ) (k : Option CostKind) (cs : List Call) → told (lines_of text) ≡ spelled o n k cs → ⊥
none_spelled text m e is o n k cs t =
    let both : wrong 0 e ≡ script o n k cs = sym (ap placeless is) ∙ same_run (lines_of text) 0 unwritten ∙ ap (λ rs. placeless (run unwritten rs)) t ∙ ap placeless (run_spelled o n k cs) in
    let z : ◌≡◌ {A = ℕ} 0 1 = cc in
    absurd (omega arith)

pub accepts : (r : Result Script ScriptError) (text : List ℕ) → Ends r (read_of text) → Accepts r text
accepts (Ok s) text is = subst (λ o. Agrees o (told (lines_of text))) is (from_start (lines_of text) 0)
accepts (Err (Mistake m)) text is = none_spelled text m.line m.expected is
accepts (Err Memory) text is = tt
