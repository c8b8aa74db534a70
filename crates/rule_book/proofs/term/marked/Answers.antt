use Rattle.std.proofs.Common.{ℕ, ◌^◌, ◌<◌, Bool, cond, ◌&&◌, ltb, ap, ◌∙◌, arith}
use Rattle.std.specs.Int.Bits.{bit_or}
use Rattle.std.proofs.Math.Bool.{and-true}
use Rattle.std.proofs.lemmas.Bool.{lt-ltb}
use Rattle.policies.specs.Limits.{width_limit}
use Rattle.policies.specs.Places.{packed_with}
use Rattle.rule_book.specs.Marking.{sets}
use Rattle.rule_book.proofs.term.marked.Goals as goal

pub loop-i-preserved : goal.loop-i-preserved
loop-i-preserved c =
    let i = c.loop-i.i in
    let f : ℕ → Bool = sets c.args.terms.now c.args.word c.args.event in
    let room : i < width_limit = omega arith in
    c.with_bit-next.ensures
    ∙ ap (λ b. bit_or c.loop-i.next (cond b (2 ^ i) 0)) (ap (λ b. b && ltb i width_limit) c.is_set.ensures ∙ ap (λ b. f i && b) (lt-ltb i width_limit room) ∙ and-true (f i))
    ∙ packed_with f i c.loop-i.next c.loop-i.invariant
