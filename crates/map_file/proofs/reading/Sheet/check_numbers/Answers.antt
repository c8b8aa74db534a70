use Rattle.std.proofs.Common.{◌≡◌, sym, refl, ap, ◌∙◌, arith}
use Rattle.std.proofs.lemmas.Bool.Decides.{nat_tests}
use Rattle.streets.specs.declared.refusal.Refusal.TheVariants.{NumberTaken}
use Rattle.map_file.specs.Reading.{records, arc_at, is_new, first_failing, fault_at}
use Rattle.map_file.proofs.Firsts.{first_more, first_found}
use Rattle.map_file.proofs.Numbers.{met_none, met_more, met_test}
use Rattle.map_file.proofs.reading.Sheet.check_numbers.Goals as goal

pub loop-i-init : goal.loop-i-init
loop-i-init c = record { none = refl; met = met_none c.args.self.now.bytes.now c.none-seen.result.table c.none-seen.ensures }

pub returns-then-number-ge-NUMBERS_END : goal.returns-then-number-ge-NUMBERS_END
returns-then-number-ge-NUMBERS_END c =
    let b = c.args.self.now.bytes.now in
    let i = c.loop-i.i in
    let number = c.from-number.result in
    let is : number ≡ (arc_at b i).number = cc in
    let test = met_test b c.loop-i.seen.table i number c.loop-i.invariant.met is in
    ap (fault_at NumberTaken) (sym (first_found (is_new b) (records b) i (omega arith) c.loop-i.invariant.none (grind (arith, nat_tests))))

pub loop-i-preserved : goal.loop-i-preserved
loop-i-preserved c =
    let b = c.args.self.now.bytes.now in
    let i = c.loop-i.i in
    let number = c.from-number.result in
    let is : number ≡ (arc_at b i).number = cc in
    let test = met_test b c.loop-i.seen.table i number c.loop-i.invariant.met is in
    record {
      none = first_more (is_new b) i c.loop-i.invariant.none (grind (arith, nat_tests));
      met = met_more b c.loop-i.seen.table i number c.loop-i.invariant.met is c.put.new.self.table c.if-number-ge-NUMBERS_END.false c.put.ensures;
    }

pub returns : goal.returns
returns c =
    let b = c.args.self.now.bytes.now in
    let all : c.loop-i.i ≡ records b = omega arith in
    ap (fault_at NumberTaken) (sym c.loop-i.invariant.none ∙ ap (first_failing (is_new b)) all)
