use Rattle.std.proofs.Common.{◌≡◌, ◌/◌, ◌^◌, true, ◌&&◌, ◌||◌, drop}
use Rattle.rule_exprs.specs.Formulas.{shapes, all_marks}
use Rattle.rule_book.specs.Marking.{latest, all_values, one_value}
use Rattle.rule_book.proofs.value.Bits.+holds.Given as goal

-- what is left decides, and takes the bits that are left
abbrev pub invariant-loop-member : goal.invariant-loop-member
invariant-loop-member l = record {
  value : (l.all && all_values (shapes (drop l.member-index l.member-items)) l.self.left 0 l.point) ≡ all_values (shapes l.member-items) l.fn.self.left 0 l.point;
  left : l.self.left / 2 ^ all_marks (shapes (drop l.member-index l.member-items)) ≡ l.fn.self.left / 2 ^ all_marks (shapes l.member-items);
}

abbrev pub invariant-loop-member-2 : goal.invariant-loop-member-2
invariant-loop-member-2 l = record {
  value : (l.one || one_value (shapes (drop l.member-index l.member-items)) l.self.left 0 l.point) ≡ one_value (shapes l.member-items) l.fn.self.left 0 l.point;
  left : l.self.left / 2 ^ all_marks (shapes (drop l.member-index l.member-items)) ≡ l.fn.self.left / 2 ^ all_marks (shapes l.member-items);
}

abbrev pub invariant-loop : goal.invariant-loop
invariant-loop l = record {
  value : latest (drop l.index l.items) l.self.left 0 l.last ≡ latest l.items l.fn.self.left 0 true;
  left : l.self.left ≡ l.fn.self.left / 2 ^ l.index;
}
