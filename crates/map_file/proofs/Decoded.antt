-- Sound bytes are those of lists read off their places.
use Rattle.std.proofs.Common.{◌≡◌, ℕ, zero, suc, ◌+◌, ◌*◌, ◌<◌, ◌≤◌, List, [], ◌∷◌, ◌++◌, map, length, get_or, drop, sym, refl, ap, ◌∙◌, append_assoc, add-zero, zero-add, add-one, arith}
use Rattle.std.specs.List.{range_with_len, flat_map}
use Rattle.std.proofs.lemmas.List.FromFn.{map-range_with_len_more, length-map-range_with_len, get_or-map-range_with_len}
use Rattle.std.proofs.lemmas.Grind.{common_steps}
use Rattle.std.proofs.ByRecursion.{All-from_get_or}
use Rattle.std.proofs.lemmas.List.{flat_map_more, drop_all, get_or-map}
use Rattle.streets.specs.declared.arc.Arc.{Arc}
use Rattle.streets.specs.Network.{Fine}
use Rattle.map_file.specs.Format.{record_bytes, all_arcs, pairs, Valid, Encoded}
use Rattle.map_file.specs.Reading.{points, records, offset, many, record_at, arc_at, end_before}
use Rattle.map_file.specs.Sound.{Sound}
use Rattle.map_file.proofs.Fields.{field_next}

-- the arcs of a point, read off its places
abbrev arcs_of : List ℕ → ℕ → List Arc
arcs_of b p = map (λ k. arc_at b (offset b p + k)) (range_with_len 0 (many b p))

-- the lists of all points
abbrev lists_of : List ℕ → List (List Arc)
lists_of b = map (arcs_of b) (range_with_len 0 (points b))

-- counting m + n places is counting m, then n more
counted_on : (f : ℕ → Arc) (m n : ℕ) → map f (range_with_len 0 m) ++ map (λ k. f (m + k)) (range_with_len 0 n) ≡ map f (range_with_len 0 (m + n))
counted_on f m zero = let same = add-zero m in grind (arith, common_steps)
counted_on f m (suc n) =
    let before = counted_on f m n in
    let more = map-range_with_len_more (λ k. f (m + k)) 0 n n (zero-add n) in
    let all = map-range_with_len_more f 0 (m + n) (m + n) (zero-add (m + n)) in
    let next = add-one n in
    let last : m + suc n ≡ m + n + 1 = omega arith in
    let joined = append_assoc (map f (range_with_len 0 m)) (map (λ k. f (m + k)) (range_with_len 0 n)) (f (m + n) ∷ []) in
    cc

module _ (b : List ℕ) (sound : Sound b) where
  -- the arcs of the first p points are the records before their end
  first_arcs : (p : ℕ) → p ≤ points b → all_arcs (map (arcs_of b) (range_with_len 0 p)) ≡ map (arc_at b) (range_with_len 0 (end_before b p))
  first_arcs zero h = refl
  first_arcs (suc p) h =
      let before = first_arcs p (omega arith) in
      let start = sound.readable.line p (omega arith) in
      let next = add-one p in
      let lists = map-range_with_len_more (arcs_of b) 0 p p (zero-add p) in
      let arcs = flat_map_more (λ arcs. arcs) [] (map (arcs_of b) (range_with_len 0 p)) (arcs_of b p) in
      let more = counted_on (arc_at b) (offset b p) (many b p) in
      cc

  -- the arcs of all points are all records
  every_arc : all_arcs (lists_of b) ≡ map (arc_at b) (range_with_len 0 (records b))
  every_arc = first_arcs (points b) (omega arith) ∙ ap (λ k. map (arc_at b) (range_with_len 0 k)) sound.readable.full

  -- lists as long as there are points, whose arcs are the records, may be stated
  valid_from : (lists : List (List Arc)) → length lists ≡ points b → all_arcs lists ≡ map (arc_at b) (range_with_len 0 (records b)) → Valid lists
  valid_from lists n all =
      let m = length-map-range_with_len (arc_at b) 0 (records b) in
      let long : length (all_arcs lists) ≡ records b = cc in
      let here : (i : ℕ) (d : Arc) → i < length (all_arcs lists) → get_or (all_arcs lists) i d ≡ arc_at b i = λ i d h. let e = get_or-map-range_with_len (arc_at b) 0 (records b) i i d (omega arith) (zero-add i) in cc in
      let number : (i : ℕ) → i < length (all_arcs lists) → get_or (map (λ a. a.number) (all_arcs lists)) i 0 ≡ (arc_at b i).number = λ i h. get_or-map (λ a. a.number) (all_arcs lists) i (arc_at b i) 0 h ∙ ap (λ a. a.number) (here i (arc_at b i) h) in
      record {
        some = omega (arith, sound.counted.some);
        few = omega (arith, sound.counted.sized.1);
        arcs = omega (arith, sound.counted.few);
        fine = All-from_get_or (Fine (length lists)) (all_arcs lists) (arc_at b 0) (λ i h. rw (n, here i (arc_at b 0) h) (sound.readable.limits i (omega arith)));
        apart = λ i j h s same. sound.readable.distinct i j h (omega arith) (let x = number i (omega arith) in let y = number j s in cc);
      }

  module _ (small : (i : ℕ) → get_or b i 0 < 256) where
    -- the bytes from a pair on are the pairs from there on, then the records
    pairs_from : (n p : ℕ) → p + n ≡ points b → drop (4 + 4 * p) b ≡ pairs (end_before b p) (map (arcs_of b) (range_with_len p n)) ++ drop (4 + 4 * points b) b
    pairs_from zero p e = ap (λ k. drop (4 + 4 * k) b) (sym (add-zero p) ∙ e)
    pairs_from (suc n) p e =
        let inside : p < points b = omega arith in
        let long = sound.counted.sized.0 in
        let first = field_next b (4 + 4 * p) (6 + 4 * p) (omega arith) (omega arith) small in
        let second = field_next b (6 + 4 * p) (4 + 4 * (p + 1)) (omega arith) (omega arith) small in
        let start : offset b p ≡ end_before b p = sound.readable.line p inside in
        let many_are : length (arcs_of b p) ≡ many b p = length-map-range_with_len (λ k. arc_at b (offset b p + k)) 0 (many b p) in
        let next : end_before b (p + 1) ≡ end_before b p + length (arcs_of b p) = ap (end_before b) (add-one p) ∙ omega arith in
        let rest = pairs_from n (p + 1) (omega arith) in
        cc

    -- the bytes from a record on are the records from there on
    records_from : (n i : ℕ) → i + n ≡ records b → drop (record_at b i) b ≡ flat_map record_bytes (map (arc_at b) (range_with_len i n))
    records_from zero i e = drop_all (record_at b i) b (omega (arith, sound.counted.sized.0))
    records_from (suc n) i e =
        let long = sound.counted.sized.0 in
        let at : ℕ = record_at b i in
        let number = field_next b at (at + 2) refl (omega arith) small in
        let head = field_next b (at + 2) (at + 4) (omega arith) (omega arith) small in
        let seconds = field_next b (at + 4) (at + 6) (omega arith) (omega arith) small in
        let climb = field_next b (at + 6) (at + 8) (omega arith) (omega arith) small in
        let toll = field_next b (at + 8) (record_at b (i + 1)) (omega arith) (omega arith) small in
        let rest = records_from n (i + 1) (omega arith) in
        cc

    -- header, pairs and records are all the bytes
    pub encoded_from : Encoded b
    encoded_from =
        let lists : List (List Arc) = lists_of b in
        let n : length lists ≡ points b = length-map-range_with_len (arcs_of b) 0 (points b) in
        let m : length (all_arcs lists) ≡ records b = ap length every_arc ∙ length-map-range_with_len (arc_at b) 0 (records b) in
        let long = sound.counted.sized.0 in
        let first = field_next b 0 2 refl (omega arith) small in
        let second = field_next b 2 4 refl (omega arith) small in
        let pairs_are = pairs_from (points b) 0 (zero-add (points b)) in
        let records_are = records_from (records b) 0 (zero-add (records b)) in
        let start : 4 + 4 * points b + 0 ≡ 4 + 4 * points b = add-zero (4 + 4 * points b) in
        let all : flat_map record_bytes (map (arc_at b) (range_with_len 0 (records b))) ≡ flat_map record_bytes (all_arcs lists) = ap (flat_map record_bytes) (sym every_arc) in
        (lists, valid_from lists n every_arc, cc)
