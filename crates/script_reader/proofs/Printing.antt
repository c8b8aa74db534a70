-- The line that is written for a call is read as that call.
use Rattle.std.proofs.Common.{◌≡◌, ℕ, ◌^◌, ◌<◌, true, cond, List, [], ◌∷◌, ◌++◌, length, Some, Ok, Err, codes, decimal, refl, ap, ◌∙◌, one-add, arith}
use Rattle.std.specs.Option.{ok_or}
use Rattle.std.specs.List.{prefix_len}
use Rattle.std.specs.Str.{all_ascii_digits, is_utf8}
use Rattle.std.proofs.lemmas.Fmt.{digits_decimal, digits_value-decimal, length-decimal-le, decimal_nonempty}
use Rattle.std.proofs.lemmas.List.Folds.{prefix_len-append}
use Rattle.std.proofs.lemmas.List.{take_all, drop_all, take_at, drop_at}
use Rattle.std.proofs.lemmas.Bool.Decides.{nat_tests}
use Rattle.script.specs.declared.calls.Call.{Call}
use Rattle.script.specs.declared.calls.Call.TheVariants.{Shut, Reopen, Arcs}
use Rattle.script.specs.declared.mistakes.Expected.TheVariants.{Number, Text, ShutArguments, ReopenArguments, ArcsArguments}
use Rattle.script.specs.Numbers.{number_of}
use Rattle.script.specs.Words.{solid, words_of}
use Rattle.script.specs.Arguments.{then, numeral_of, one_number}
use Rattle.script.specs.Lines.{opens, makes, Opens, map, grid, says}
use Rattle.script.specs.declared.yards.Yard.{Yard}
use Rattle.script.specs.declared.mistakes.Expected.{Expected}
use Rattle.script.specs.Spelling.{opening_text}
use Rattle.script_reader.specs.Laws.{OpeningReadsBack, CallReadsBack}
use Rattle.script.proofs.Numerals.{own, is_number}
use Rattle.script.proofs.Splitting.{first_word}

pub number_decimal : (n : ℕ) → n < 10 ^ 10 → number_of (decimal n) ≡ Some n
number_decimal n small =
    let fits : n < 2 ^ 64 = omega arith in
    is_number (decimal n) (decimal_nonempty n fits) (length-decimal-le 10 n (omega arith) small fits) (digits_decimal own n fits) ∙ ap Some (digits_value-decimal own n fits)

-- some bytes, and no blank among them
abbrev pub Word : List ℕ → Type 0
Word w = (0 < length w) × (prefix_len solid w ≡ length w)

digits_solid : (ds : List ℕ) → all_ascii_digits ds ≡ true → prefix_len solid ds ≡ length ds
digits_solid [] e = refl
digits_solid (c ∷ cs) e =
    let rest : all_ascii_digits cs ≡ true = grind (arith, nat_tests) in
    let here : solid c ≡ true = grind (arith, nat_tests) in
    rw (here, digits_solid cs rest, one-add)

numeral_word : (n : ℕ) → n < 10 ^ 10 → Word (decimal n)
numeral_word n small = let fits : n < 2 ^ 64 = omega arith in (decimal_nonempty n fits, digits_solid (decimal n) (digits_decimal own n fits))

last_word : (w : List ℕ) → Word w → words_of w ≡ w ∷ []
last_word w is =
    let some : prefix_len solid w ≡ 0 → ⊥ = λ z. omega arith in
    first_word w some ∙ rw (is.1, take_all (length w) w (omega arith), drop_all (length w) w (omega arith))

leading_before_space : (w rest : List ℕ) → prefix_len solid w ≡ length w → prefix_len solid (w ++ (32 ∷ rest)) ≡ length w
leading_before_space w rest e = prefix_len-append solid w (32 ∷ rest) ∙ grind (arith, nat_tests)

word_then : (w rest : List ℕ) → Word w → words_of (w ++ (32 ∷ rest)) ≡ w ∷ words_of rest
word_then w rest is =
    let long = leading_before_space w rest is.1 in
    let some : prefix_len solid (w ++ (32 ∷ rest)) ≡ 0 → ⊥ = λ z. omega arith in
    first_word (w ++ (32 ∷ rest)) some ∙ rw (long, take_at w (32 ∷ rest) (length w) refl, drop_at w (32 ∷ rest) (length w) refl)

numeral_decimal : (n : ℕ) → n < 10 ^ 10 → numeral_of (decimal n) ≡ Ok n
numeral_decimal n small = ap (λ r. ok_or r Number) (number_decimal n small)

abbrev pub Small : Call → Type 0
Small (Shut arc) = arc < 10 ^ 10
Small (Reopen arc) = arc < 10 ^ 10
Small (Arcs point) = point < 10 ^ 10

number_back : (usage : Expected) (n : ℕ) → n < 10 ^ 10 → one_number usage (words_of (decimal n)) ≡ Ok n
number_back usage n small = ap (one_number usage) (last_word (decimal n) (numeral_word n small)) ∙ numeral_decimal n small

pub call_reads_back : (c : Call) → Small c → CallReadsBack c
call_reads_back (Shut n) h = ap (λ r. then r (λ arc. Ok (makes (Shut arc)))) (number_back ShutArguments n h)
call_reads_back (Reopen n) h = ap (λ r. then r (λ arc. Ok (makes (Reopen arc)))) (number_back ReopenArguments n h)
call_reads_back (Arcs n) h = ap (λ r. then r (λ point. Ok (makes (Arcs point)))) (number_back ArcsArguments n h)

abbrev pub Fine : Opens → Type 0
Fine (map path) = Word path × (is_utf8 path ≡ true)
Fine (grid y) = (y.rows < 10 ^ 10) × (y.columns < 10 ^ 10) × (y.seconds < 10 ^ 10) × (y.climb < 10 ^ 10)

grid_words : (y : Yard) → Fine (grid y) → words_of (opening_text (grid y)) ≡ codes "grid" ∷ decimal y.rows ∷ decimal y.columns ∷ decimal y.seconds ∷ decimal y.climb ∷ []
grid_words y is =
    ap (λ ws. codes "grid" ∷ ws) (word_then (decimal y.rows) _ (numeral_word y.rows is.0)
    ∙ ap (λ ws. decimal y.rows ∷ ws) (word_then (decimal y.columns) _ (numeral_word y.columns is.1)
    ∙ ap (λ ws. decimal y.columns ∷ ws) (word_then (decimal y.seconds) _ (numeral_word y.seconds is.2)
    ∙ ap (λ ws. decimal y.seconds ∷ ws) (last_word (decimal y.climb) (numeral_word y.climb is.3)))))

pub opening_reads_back : (o : Opens) → Fine o → OpeningReadsBack o
opening_reads_back (map path) is = ap (λ ws. says (codes "map" ∷ ws)) (last_word path is.0) ∙ ap (λ v. cond v (Ok (opens (map path))) (Err Text)) is.1
opening_reads_back (grid y) is =
    ap says (grid_words y is)
    ∙ rw (numeral_decimal y.rows is.0, numeral_decimal y.columns is.1, numeral_decimal y.seconds is.2, numeral_decimal y.climb is.3)
