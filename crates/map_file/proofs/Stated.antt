-- Bytes that hold lists at their places are sound, and mean those lists.
use Rattle.std.proofs.Common.{◌≡◌, ℕ, zero, suc, ◌+◌, ◌<◌, ◌≤◌, List, [], ◌∷◌, map, length, get_or, take, Some, Option, sym, refl, ap, ◌∙◌, subst, ⊎_elim, zero-add, add-one, arith}
use Rattle.std.specs.List.{range_with_len}
use Rattle.std.proofs.lemmas.List.FromFn.{map-range_with_len_more, fill_by_all}
use Rattle.std.proofs.ByRecursion.{All-get_or}
use Rattle.std.proofs.lemmas.List.{get_or-map, get_or_past, take_all}
use Rattle.std.proofs.lemmas.Bool.Decides.{nat_tests}
use Rattle.std.proofs.lemmas.Grind.{common_steps}
use Rattle.std.proofs.lemmas.List.Concat.{get_or-flat_map}
use Rattle.std.proofs.lemmas.Bool.{cases_lt}
use Rattle.streets.specs.declared.arc.Arc.{Arc}
use Rattle.streets.specs.Network.{Fine, listed, network}
use Rattle.map_file.specs.Format.{all_arcs, Valid}
use Rattle.map_file.specs.Reading.{arc_at, end_before, file}
use Rattle.map_file.specs.Sound.{Sized, Sound}
use Rattle.map_file.proofs.Holds.{Holds}

-- one point more adds its arcs
arcs_more : (p : ℕ) (lists : List (List Arc)) → p < length lists → length (all_arcs (take (suc p) lists)) ≡ length (all_arcs (take p lists)) + length (get_or lists p [])
arcs_more p [] h = absurd (omega arith)
arcs_more zero (arcs ∷ rest) h = grind (arith, common_steps)
arcs_more (suc p) (arcs ∷ rest) h = let before = arcs_more p rest (omega arith) in grind (arith, common_steps)

-- arc k of point p is one of all
arc_inside : (p k : ℕ) (lists : List (List Arc)) → k < length (get_or lists p []) → length (all_arcs (take p lists)) + k < length (all_arcs lists)
arc_inside p k [] h = absurd (omega arith)
arc_inside zero k (arcs ∷ rest) h = grind (arith, common_steps)
arc_inside (suc p) k (arcs ∷ rest) h = let before = arc_inside p k rest h in grind (arith, common_steps)

-- slots that all hold an arc give the list of these arcs
listed_full : (f : ℕ → Option Arc) (g : ℕ → Arc) (n : ℕ) → ((k : ℕ) → k < n → f k ≡ Some (g k)) → listed f n ≡ map g (range_with_len 0 n)
listed_full f g zero h = refl
listed_full f g (suc n) h =
    let before = listed_full f g n (λ k s. h k (omega arith)) in
    let last = h n (omega arith) in
    let more = map-range_with_len_more g 0 n n (zero-add n) in
    let next = add-one n in
    cc

module _ (b : List ℕ) (lists : List (List Arc)) (holds : Holds b lists) where
  -- the records of the first p points end where the arcs of these do
  ends : (p : ℕ) → p ≤ length lists → end_before b p ≡ length (all_arcs (take p lists))
  ends zero h = refl
  ends (suc p) h =
      let here : p < length lists = omega arith in
      let o = holds.offsets p here in
      let m = holds.counts p here in
      let e = arcs_more p lists here in
      omega arith

  -- every check passes where the lists may be stated
  pub holds_sound : Valid lists → Sound b
  holds_sound valid =
      let all : List Arc = all_arcs lists in
      let n = holds.points_are in
      let m = holds.records_are in
      let sized : Sized b = (omega (arith, holds.long), omega (arith, valid.few)) in
      record {
        counted = record { some = omega (arith, valid.some); few = omega (arith, valid.arcs); sized = sized };
        readable = record {
          sized = sized;
          line = λ p h. holds.offsets p (omega arith) ∙ sym (ends p (omega arith));
          full = let all = take_all (length lists) lists (omega arith) in let end = ends (length lists) (omega arith) in cc;
          limits = λ i h.
              let here : i < length all = omega arith in
              subst (λ k. Fine k (arc_at b i)) (sym n) (subst (Fine (length lists)) (sym (holds.arcs i (arc_at b i) here)) (All-get_or (Fine (length lists)) all i (arc_at b i) here valid.fine));
          distinct = λ i j h s same.
              let far : j < length all = omega arith in
              let near : i < length all = omega arith in
              let number : (k : ℕ) → k < length all → get_or (map (λ a. a.number) all) k 0 ≡ (arc_at b k).number = λ k t. get_or-map (λ a. a.number) all k (arc_at b k) 0 t ∙ ap (λ a. a.number) (sym (holds.arcs k (arc_at b k) t)) in
              let x = number i near in let y = number j far in valid.apart i j h far (cc);
        };
      }

  -- what a slot of a point holds
  slot_holds : (p k : ℕ) (d : Arc) → p < length lists → k < length (get_or lists p []) → (file b).slot p k ≡ Some (get_or (get_or lists p []) k d)
  slot_holds p k d h s =
      let n = holds.points_are in
      let m = holds.counts p h in
      let o = holds.offsets p h in
      let arc = holds.arcs (length (all_arcs (take p lists)) + k) d (arc_inside p k lists s) in
      let place = get_or-flat_map (λ arcs. arcs) lists p k [] d h s in
      grind (arith, nat_tests)

  -- a point's slots give its list
  means_inside : (p : ℕ) → p < length lists → (network (file b)).arcs p ≡ get_or lists p []
  means_inside p h =
      let n = holds.points_are in
      let d : Arc = arc_at b 0 in
      let arcs : List Arc = get_or lists p [] in
      let m = holds.counts p h in
      let slots : (file b).slots p ≡ length arcs = grind (arith, nat_tests) in
      let full = listed_full ((file b).slot p) (λ k. get_or arcs k d) (length arcs) (λ k s. slot_holds p k d h s) in
      let all = fill_by_all (λ k. get_or arcs k d) arcs (length arcs) d refl (λ k s. refl) in
      cc

  -- a point outside has no slots, and no list is stated of it
  means_outside : (p : ℕ) → length lists ≤ p → (network (file b)).arcs p ≡ get_or lists p []
  means_outside p h =
      let n = holds.points_are in
      let none = get_or_past lists p [] h in
      grind (arith, nat_tests)

  -- each point has the list stated of it
  pub holds_means : (p : ℕ) → (network (file b)).arcs p ≡ get_or lists p []
  holds_means p = ⊎_elim (means_inside p) (means_outside p) (cases_lt p (length lists))
