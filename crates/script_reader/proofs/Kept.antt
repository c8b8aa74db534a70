-- The opening and the calls of a script that is read can be written and read again.
use Rattle.std.proofs.Common.{◌≡◌, ℕ, zero, suc, ◌+◌, ◌^◌, ◌<◌, Bool, true, false, cond, not, ◌||◌, eqb, List, [], ◌∷◌, length, take, is_some, IfOk, Some, None, Ok, Err, Result, refl, subst, one-add, arith}
use Rattle.std.specs.Option.{ok_or}
use Rattle.std.specs.List.{prefix_len, AllByRecursion}
use Rattle.std.specs.Str.{is_utf8}
use Rattle.std.proofs.ByRecursion.{All-push, All-weaker}
use Rattle.std.proofs.lemmas.Str.Parse.{digits_value_short}
use Rattle.std.proofs.lemmas.Bool.Decides.{nat_tests}
use Rattle.script_reader.specs.declared.scripts.Script.{Script}
use Rattle.script.specs.declared.mistakes.Expected.{Expected}
use Rattle.script.specs.declared.mistakes.Expected.TheVariants.{Number, Text, GridArguments, CapacityArguments, CostArguments, ShutArguments, ReopenArguments, ArcsArguments}
use Rattle.script.specs.declared.mistakes.ScriptError.{ScriptError}
use Rattle.script.specs.declared.mistakes.ScriptError.TheVariants.{Mistake, Memory}
use Rattle.script.specs.Numbers.{numeric, decimal_value}
use Rattle.script.specs.Words.{blank, solid, words_after, words_of}
use Rattle.script.specs.Arguments.{then, numeral_of, one_word, one_number, number_first}
use Rattle.script.specs.Lines.{Said, nothing, opens, capacity, cost, makes, map, named, map_says, grid_says, kind, verb_of, verb_says, comment, says}
use Rattle.script.specs.declared.calls.Call.{Call}
use Rattle.script.specs.declared.calls.Call.TheVariants.{Shut, Reopen, Arcs}
use Rattle.script.specs.declared.verbs.Verb.{Verb}
use Rattle.script.specs.declared.verbs.Verb.TheVariants.{Map as VMap, Grid as VGrid, Capacity as VCapacity, Cost as VCost, Shut as VShut, Reopen as VReopen, Arcs as VArcs}
use Rattle.script.proofs.Numerals.{own}
use Rattle.script_reader.specs.Drafts.{Written, written, unwritten, step, Outcome, script, wrong, finish, opens_of, Ends}
use Rattle.script_reader.specs.Reading.{lines_of, or_wrong, read_from, read_of}
use Rattle.script_reader.specs.Laws.{CallReadsBack, ReadsBack}
use Rattle.script_reader.proofs.Printing.{Word, Small, Fine, call_reads_back, opening_reads_back}

-- what holds of a result goes on holding

then_made : {A B : Type 0} (P : A → Type 0) (Q : B → Type 0) (r : Result A Expected) (next : A → Result B Expected) → IfOk r P → ((a : A) → P a → IfOk (next a) Q) → IfOk (then r next) Q
then_made P Q (Ok a) next p q = q a p
then_made P Q (Err e) next p q = tt

any_made : {A : Type 0} (r : Result A Expected) → IfOk r (λ a. Unit {0})
any_made (Ok a) = tt
any_made (Err e) = tt

cond_made : {B : Type 0} (Q : B → Type 0) (b : Bool) (x y : Result B Expected) → IfOk x Q → IfOk y Q → IfOk (cond b x y) Q
cond_made Q true x y p q = p
cond_made Q false x y p q = q

-- words have no blanks

run_solid : (xs : List ℕ) → prefix_len solid (take (prefix_len solid xs) xs) ≡ length (take (prefix_len solid xs) xs)
run_solid [] = refl
run_solid (b ∷ bs) = by (solid b) refl (run_solid bs)
  where
    by : (v : Bool) → solid b ≡ v → prefix_len solid (take (prefix_len solid bs) bs) ≡ length (take (prefix_len solid bs) bs) → prefix_len solid (take (cond v (1 + prefix_len solid bs) 0) (b ∷ bs)) ≡ length (take (cond v (1 + prefix_len solid bs) 0) (b ∷ bs))
    by true e more = rw (one-add, e, more, one-add)
    by false e more = refl

first_solid : (b : ℕ) (bs : List ℕ) → blank b ≡ false → Word (take (prefix_len solid (b ∷ bs)) (b ∷ bs))
first_solid b bs e =
    let some : 0 < length (take (prefix_len solid (b ∷ bs)) (b ∷ bs)) = rw (e, one-add) (omega arith) in
    (some, run_solid (b ∷ bs))

words_are : (k : ℕ) (bs : List ℕ) → AllByRecursion Word (words_after k bs)
words_are zero [] = tt
words_are (suc k) [] = tt
words_are zero (b ∷ bs) = by (blank b) refl (words_are 0 bs) (words_are (prefix_len solid bs) bs)
  where
    by : (v : Bool) → blank b ≡ v → AllByRecursion Word (words_after 0 bs) → AllByRecursion Word (words_after (prefix_len solid bs) bs) → AllByRecursion Word (cond v (words_after 0 bs) (take (prefix_len solid (b ∷ bs)) (b ∷ bs) ∷ words_after (prefix_len solid bs) bs))
    by true e skip more = skip
    by false e skip more = (first_solid b bs e, more)
words_are (suc k) (b ∷ bs) = words_are k bs

-- numbers have at most ten digits

number_small : (w : List ℕ) → IfOk (numeral_of w) (λ n. n < 10 ^ 10)
number_small w = by (numeric w) refl
  where
    by : (v : Bool) → numeric w ≡ v → IfOk (ok_or (cond v (Some (decimal_value w)) None) Number) (λ n. n < 10 ^ 10)
    by true e = digits_value_short own w 10 (grind (arith, nat_tests)) (grind (arith, nat_tests))
    by false e = tt

only_small : (usage : Expected) (ws : List (List ℕ)) → IfOk (one_number usage ws) (λ n. n < 10 ^ 10)
only_small usage [] = tt
only_small usage (w ∷ []) = number_small w
only_small usage (w ∷ v ∷ ws) = tt

first_small : (usage : Expected) (ws : List (List ℕ)) → IfOk (number_first usage ws) (λ p. p.0 < 10 ^ 10)
first_small usage [] = tt
first_small usage (w ∷ ws) = then_made (λ n. n < 10 ^ 10) (λ p. p.0 < 10 ^ 10) (numeral_of w) (λ n. Ok (n, ws)) (number_small w) (λ n h. h)

-- what a line says can be written again

abbrev Again : Said → Type 0
Again nothing = Unit {0}
Again (opens o) = Fine o
Again (capacity n) = Unit {0}
Again (cost k) = Unit {0}
Again (makes c) = Small c

named_again : (w : List ℕ) → Word w → IfOk (named w) Again
named_again w is = by (is_utf8 w) refl
  where
    by : (v : Bool) → is_utf8 w ≡ v → IfOk (cond v (Ok (opens (map w))) (Err Text)) Again
    by true e = (is, e)
    by false e = tt

map_again : (ws : List (List ℕ)) → AllByRecursion Word ws → IfOk (map_says ws) Again
map_again [] all = tt
map_again (w ∷ []) all = named_again w all.0
map_again (w ∷ v ∷ ws) all = tt

grid_again : (ws : List (List ℕ)) → IfOk (grid_says ws) Again
grid_again ws =
    then_made (λ p. p.0 < 10 ^ 10) Again (number_first GridArguments ws) _ (first_small GridArguments ws) (λ rows a.
    then_made (λ p. p.0 < 10 ^ 10) Again (number_first GridArguments rows.1) _ (first_small GridArguments rows.1) (λ columns b.
    then_made (λ p. p.0 < 10 ^ 10) Again (number_first GridArguments columns.1) _ (first_small GridArguments columns.1) (λ seconds c.
    then_made (λ n. n < 10 ^ 10) Again (one_number GridArguments seconds.1) _ (only_small GridArguments seconds.1) (λ climb d. (a, b, c, d)))))

call_again : (usage : Expected) (make : ℕ → Call) (ws : List (List ℕ)) → ((n : ℕ) → n < 10 ^ 10 → Small (make n)) → IfOk (then (one_number usage ws) (λ n. Ok (makes (make n)))) Again
call_again usage make ws small = then_made (λ n. n < 10 ^ 10) Again (one_number usage ws) _ (only_small usage ws) small

verb_again : (v : Verb) (ws : List (List ℕ)) → AllByRecursion Word ws → IfOk (verb_says v ws) Again
verb_again VMap ws all = map_again ws all
verb_again VGrid ws all = grid_again ws
verb_again VCapacity ws all = then_made (λ n. n < 10 ^ 10) Again (one_number CapacityArguments ws) _ (only_small CapacityArguments ws) (λ n h. tt)
verb_again VCost ws all = let kind_of = then (one_word CostArguments ws) kind in then_made (λ k. Unit {0}) Again kind_of _ (any_made kind_of) (λ k h. tt)
verb_again VShut ws all = call_again ShutArguments Shut ws (λ n h. h)
verb_again VReopen ws all = call_again ReopenArguments Reopen ws (λ n h. h)
verb_again VArcs ws all = call_again ArcsArguments Arcs ws (λ n h. h)

says_again : (ws : List (List ℕ)) → AllByRecursion Word ws → IfOk (says ws) Again
says_again [] all = tt
says_again (w ∷ ws) all = cond_made Again (comment w) _ _ tt (then_made (λ v. Unit {0}) Again (verb_of w) _ (any_made (verb_of w)) (λ v h. verb_again v ws all.1))

-- and so can what all the lines say

abbrev Kept : Written → Type 0
Kept unwritten = Unit {0}
Kept (written o n k cs) = Fine o × AllByRecursion Small cs

step_kept : (s : Written) (x : Said) → Kept s → Again x → IfOk (step s x) Kept
step_kept s nothing h a = h
step_kept unwritten (opens o) h a = (a, tt)
step_kept (written p n k cs) (opens o) h a = tt
step_kept unwritten (capacity u) h a = tt
step_kept (written p n k cs) (capacity u) h a = cond_made Kept (is_some n || (is_some k || not (eqb (length cs) 0))) _ _ tt h
step_kept unwritten (cost j) h a = tt
step_kept (written p n k cs) (cost j) h a = cond_made Kept (is_some k || not (eqb (length cs) 0)) _ _ tt h
step_kept unwritten (makes c) h a = tt
step_kept (written p n k cs) (makes c) h a = (h.0, All-push Small cs c h.1 a)

abbrev KeptAll : Outcome → Type 0
KeptAll (script o n k cs) = Fine o × AllByRecursion Small cs
KeptAll (wrong m e) = Unit {0}

or_wrong_kept : (q : Result Written Expected) (m : ℕ) (next : Written → Outcome) → IfOk q Kept → ((s : Written) → Kept s → KeptAll (next s)) → KeptAll (or_wrong q m next)
or_wrong_kept (Ok s) m next h more = more s h
or_wrong_kept (Err e) m next h more = tt

finish_kept : (m : ℕ) (s : Written) → Kept s → KeptAll (finish m s)
finish_kept m unwritten h = tt
finish_kept m (written o n k cs) h = h

read_kept : (ls : List (List ℕ)) (m : ℕ) (s : Written) → Kept s → KeptAll (read_from m s ls)
read_kept [] m s h = finish_kept m s h
read_kept (l ∷ ls) m s h = or_wrong_kept (then (says (words_of l)) (step s)) (m + 1) (λ t. read_from (m + 1) t ls) (then_made Again Kept (says (words_of l)) (step s) (says_again (words_of l) (words_are 0 l)) (λ x a. step_kept s x h a)) (read_kept ls (m + 1))

pub read_back : (r : Result Script ScriptError) (text : List ℕ) → Ends r (read_of text) → ReadsBack r
read_back (Ok s) text is =
    let kept = subst KeptAll is (read_kept (lines_of text) 0 unwritten tt) in
    (opening_reads_back (opens_of s.opening) kept.0, All-weaker Small CallReadsBack call_reads_back _ kept.1)
read_back (Err (Mistake m)) text is = tt
read_back (Err Memory) text is = tt
