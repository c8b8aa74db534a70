use Rattle.std.proofs.Common.{◌≡◌, ℕ, Bool, ◌+◌, ◌-◌, ◌*◌, ◌^◌, ◌≤◌, true, false, ◌&&◌, length, get_or, take, drop, Some, sym, ap, ◌∙◌, pow-suc, add-one, arith, false-eqb}
use Rattle.script.proofs.Numerals.{is_number, not_number}
use Rattle.std.specs.Char.{is_ascii_digit}
use Rattle.std.specs.Str.{all_ascii_digits}
use Rattle.std.proofs.lemmas.List.{take_all, drop_all, at_drop_more}
use Rattle.std.proofs.lemmas.List.Sums.{fold_more}
use Rattle.script.specs.Numbers.{decimal_value}
use Rattle.script.proofs.numbers.number.Goals as goal

pub returns-then-not-is_ascii_digit : goal.returns-then-not-is_ascii_digit
returns-then-not-is_ascii_digit c =
    let left : all_ascii_digits (drop c.loop-b.b-index c.args.word.now) ≡ (is_ascii_digit (get_or c.args.word.now c.loop-b.b-index 0) && all_ascii_digits (drop (c.loop-b.b-index + 1) c.args.word.now)) = at_drop_more all_ascii_digits c.args.word.now c.loop-b.b-index 0 c.loop-b-test.true in
    let h : is_ascii_digit (get_or c.args.word.now c.loop-b.b-index 0) ≡ false = sym c.if-not-is_ascii_digit.ensures.value in
    let not : all_ascii_digits c.args.word.now ≡ false = sym c.loop-b.invariant.2 ∙ left ∙ ap (λ v. v && all_ascii_digits (drop (c.loop-b.b-index + 1) c.args.word.now)) h in
    not_number c.args.word.now (λ most all. let z : ◌≡◌ {A = Bool} true false = sym all ∙ not in cc)

pub loop-b-preserved : goal.loop-b-preserved
loop-b-preserved c =
    let more = fold_more (λ (n b : ℕ). n * 10 + (b - 48)) 0 c.args.word.now c.loop-b.b-index 0 c.loop-b-test.true in
    let power : 10 ^ (c.loop-b.b-index + 1) ≡ 10 ^ c.loop-b.b-index * 10 = rw add-one (pow-suc 10 c.loop-b.b-index) in
    let left : all_ascii_digits (drop c.loop-b.b-index c.args.word.now) ≡ (is_ascii_digit (get_or c.args.word.now c.loop-b.b-index 0) && all_ascii_digits (drop (c.loop-b.b-index + 1) c.args.word.now)) = at_drop_more all_ascii_digits c.args.word.now c.loop-b.b-index 0 c.loop-b-test.true in
    let h = c.if-not-is_ascii_digit.ensures in
    let small : get_or c.args.word.now c.loop-b.b-index 0 ≤ 57 = h.cases.1 in
    let f = c.from.ensures in (
      omega (arith, more),
      omega (arith, power),
      sym (left ∙ ap (λ v. v && all_ascii_digits (drop (c.loop-b.b-index + 1) c.args.word.now)) (sym h.value)) ∙ c.loop-b.invariant.2,
    )

pub returns : goal.returns
returns c =
    let all : decimal_value (take c.loop-b.b-index c.args.word.now) ≡ decimal_value c.args.word.now = ap decimal_value (take_all _ c.args.word.now (omega arith)) in
    let none : all_ascii_digits (drop c.loop-b.b-index c.args.word.now) ≡ true = ap all_ascii_digits (drop_all _ c.args.word.now (omega arith)) in
    let some : 1 ≤ length c.args.word.now = omega (arith, false-eqb _ 0 c.if-is_empty.ensures) in
    sym (is_number c.args.word.now some (omega arith) (sym c.loop-b.invariant.2 ∙ none) ∙ ap Some (sym (c.loop-b.invariant.0 ∙ all)))
