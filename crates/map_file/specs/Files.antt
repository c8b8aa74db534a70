-- Bytes in which the checks pass keep the laws of a map.
use Rattle.std.specs.Prelude.{◌≡◌, ℕ, zero, suc, ◌+◌, ◌-◌, ◌<◌, ◌≤◌, Bool, true, false, cond, List, Some, None, nat_lt, refl}
use Rattle.std.proofs.Common.{subst, sym, ap, ◌∙◌, ⊎_elim, add-zero, add-suc, arith}
use Rattle.std.proofs.lemmas.Bool.{ltb-true, le-ltb, cond-false, cases_order}
use Rattle.streets.specs.declared.arc.Arc.{Arc}
use Rattle.streets.specs.Network.{Lawful, Fine}
use Rattle.std.proofs.lemmas.Option.{cond_some}
use Rattle.streets.specs.Grids.{within_if}
use Rattle.map_file.specs.Reading.{points, records, offset, many, arc_at, end_before, file}
use Rattle.map_file.specs.Sound.{InLine, Full, Distinct, Readable}

-- what stands in slot k of point p
record Held (b : List ℕ) (p k : ℕ) (a : Arc) : Type 0 where
  here : p < points b
  slot : k < many b p
  is : arc_at b (offset b p + k) ≡ a

held : (b : List ℕ) (p k : ℕ) (a : Arc) → (file b).slot p k ≡ Some a → Held b p k a
held b p k a e =
    let (t, x) = within_if (nat_lt p (points b)) (cond (nat_lt k (many b p)) (Some (arc_at b (offset b p + k))) None) a e in
    let (u, y) = cond_some (nat_lt k (many b p)) (arc_at b (offset b p + k)) a x in
    record { here = ltb-true p (points b) t; slot = ltb-true k (many b p) u; is = y }

past_slots : (n k : ℕ) (b : Bool) (a : Arc) → cond b n 0 ≤ k → cond b (cond (nat_lt k n) (Some a) None) None ≡ None
past_slots n k true a h = cond-false (nat_lt k n) (Some a) None (le-ltb k n h)
past_slots n k false a h = refl

module _ (b : List ℕ) (line : InLine b) where
  -- the ends of the points only rise
  ends_rise : (p k : ℕ) → p + k ≤ points b → end_before b p ≤ end_before b (p + k)
  ends_rise p zero h = omega (arith, ap (end_before b) (add-zero p))
  ends_rise p (suc k) h =
      let before = ends_rise p k (omega arith) in
      let start = line (p + k) (omega arith) in
      omega (arith, ap (end_before b) (add-suc p k))

  -- the records of a point lie before those of the points after it
  pub before_later : (p q : ℕ) → p < q → q ≤ points b → offset b p + many b p ≤ end_before b q
  before_later p q h here =
      let rest : suc p + (q - suc p) ≡ q = omega arith in
      let rise = ends_rise (suc p) (q - suc p) (omega arith) in
      omega (arith, ap (end_before b) rest)

  -- and a record stands in one slot
  same_slot : (p q j k : ℕ) → p < points b → q < points b → j < many b p → k < many b q → offset b p + j ≡ offset b q + k → (p ≡ q) × (j ≡ k)
  same_slot p q j k hp hq hj hk e =
      let same : p ≡ q = ⊎_elim (λ x. x) (⊎_elim (λ h. absurd (let o = before_later p q h (omega arith) in let s = line q hq in omega arith)) (λ h. absurd (let o = before_later q p h (omega arith) in let s = line p hp in omega arith))) (cases_order p q) in
      (same, omega (arith, ap (offset b) same))

-- one number stands in one record
same_record : (b : List ℕ) → Distinct b → (r t : ℕ) → r < records b → t < records b → (arc_at b r).number ≡ (arc_at b t).number → r ≡ t
same_record b distinct r t hr ht e =
    ⊎_elim (λ x. x) (⊎_elim (λ h. absurd (distinct r t h ht e)) (λ h. absurd (distinct t r h hr (sym e)))) (cases_order r t)

-- the record of a slot is one of the file's
pub slot_inside : (b : List ℕ) → InLine b → Full b → (p k : ℕ) → p < points b → k < many b p → offset b p + k < records b
slot_inside b line full p k here slot = let o = before_later b line p (points b) here (omega arith) in omega arith

pub file_lawful : (b : List ℕ) → Readable b → Lawful (file b)
file_lawful b r =
    record {
      points = r.sized.1;
      outside = λ p h. cond-false (nat_lt p (points b)) (many b p) 0 (le-ltb p (points b) h);
      past = λ p k h. past_slots (many b p) k (nat_lt p (points b)) (arc_at b (offset b p + k)) h;
      fine = λ p k a e.
          let h = held b p k a e in subst (Fine (points b)) h.is (r.limits (offset b p + k) (slot_inside b r.line r.full p k h.here h.slot));
      apart = λ p q j k a c e f same.
          let h = held b p j a e in
          let i = held b q k c f in
          let one = same_record b r.distinct (offset b p + j) (offset b q + k) (slot_inside b r.line r.full p j h.here h.slot) (slot_inside b r.line r.full q k i.here i.slot) (ap (λ (x : Arc). x.number) h.is ∙ same ∙ sym (ap (λ (x : Arc). x.number) i.is)) in
          same_slot b r.line p q j k h.here i.here h.slot i.slot one;
    }
