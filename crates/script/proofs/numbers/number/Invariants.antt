use Rattle.std.proofs.Common.{◌≡◌, ◌^◌, ◌<◌, take, drop}
use Rattle.std.specs.Str.{all_ascii_digits}
use Rattle.script.specs.Numbers.{decimal_value}
use Rattle.script.proofs.numbers.number.Given as goal

abbrev pub invariant-loop-b : goal.invariant-loop-b
invariant-loop-b l =
    (l.value ≡ decimal_value (take l.b-index l.word))
    × (l.value < 10 ^ l.b-index)
    × (all_ascii_digits (drop l.b-index l.word) ≡ all_ascii_digits l.word)
