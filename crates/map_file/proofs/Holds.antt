-- What the places of a file hold, and that they hold it in the bytes of what is stated.
use Rattle.std.proofs.Common.{◌≡◌, ℕ, ◌+◌, ◌*◌, ◌<◌, List, [], ◌∷◌, ◌++◌, length, get_or, take, drop, refl, ◌∙◌, zero-add, arith, length-append}
use Rattle.std.proofs.lemmas.List.{drop_more, drop-drop, drop-append-le, drop_at}
use Rattle.std.specs.List.{flat_map}
use Rattle.streets.specs.declared.arc.Arc.{Arc}
use Rattle.map_file.specs.Format.{record_bytes, all_arcs, pairs, encode}
use Rattle.map_file.specs.Reading.{points, records, offset, many, record_at, arc_at}
use Rattle.map_file.proofs.Fields.{field_value, field_from, pairs_length, records_length, pairs_drop, records_drop}

-- b holds these lists at its places
pub record Holds (b : List ℕ) (lists : List (List Arc)) : Type 0 where
  pub points_are : points b ≡ length lists
  pub records_are : records b ≡ length (all_arcs lists)
  pub long : length b ≡ 4 + 4 * length lists + 10 * length (all_arcs lists)
  pub offsets : (p : ℕ) → p < length lists → offset b p ≡ length (all_arcs (take p lists))
  pub counts : (p : ℕ) → p < length lists → many b p ≡ length (get_or lists p [])
  pub arcs : (i : ℕ) (d : Arc) → i < length (all_arcs lists) → arc_at b i ≡ get_or (all_arcs lists) i d

-- past the header and p pairs comes the pair of point p
from_pair : (lists : List (List Arc)) (p : ℕ) → p < length lists → drop (4 + 4 * p) (encode lists) ≡ pairs (length (all_arcs (take p lists))) (get_or lists p [] ∷ drop (p + 1) lists) ++ flat_map record_bytes (all_arcs lists)
from_pair lists p h =
    let rest : List ℕ = flat_map record_bytes (all_arcs lists) in
    let skipped = drop-drop (4 * p) 4 (encode lists) in
    let within = drop-append-le (4 * p) (pairs 0 lists) rest (omega (arith, pairs_length 0 lists)) in
    let here = pairs_drop 0 p lists in
    let offset = zero-add (length (all_arcs (take p lists))) in
    let first = drop_more lists p [] h in
    cc

-- past the header, the pairs and i records comes record i
from_record : (lists : List (List Arc)) (n i : ℕ) (d : Arc) → n ≡ length lists → i < length (all_arcs lists) → drop (4 + 4 * n + 10 * i) (encode lists) ≡ record_bytes (get_or (all_arcs lists) i d) ++ flat_map record_bytes (drop (i + 1) (all_arcs lists))
from_record lists n i d e h =
    let rest : List ℕ = flat_map record_bytes (all_arcs lists) in
    let skipped = drop-drop (10 * i) (4 + 4 * n) (encode lists) in
    let header = drop-drop (4 * n) 4 (encode lists) in
    let past = drop_at (pairs 0 lists) rest (4 * n) (omega (arith, pairs_length 0 lists)) in
    let here = records_drop i (all_arcs lists) in
    let first = drop_more (all_arcs lists) i d h in
    cc

-- where the bytes of an arc begin, that arc is read
arc_from : (b rest : List ℕ) (i : ℕ) (a : Arc) → drop (record_at b i) b ≡ record_bytes a ++ rest → arc_at b i ≡ a
arc_from b rest i a e =
    let c : List ℕ = record_bytes a ++ rest in
    let at : ℕ = record_at b i in
    let number = field_from b c at 0 at e (omega arith) ∙ field_value a.number in
    let head = field_from b c at 2 (at + 2) e refl ∙ field_value a.head in
    let seconds = field_from b c at 4 (at + 4) e refl ∙ field_value a.weight.seconds in
    let climb = field_from b c at 6 (at + 6) e refl ∙ field_value a.weight.climb in
    let toll = field_from b c at 8 (at + 8) e refl ∙ field_value a.weight.toll in
    let fields : arc_at b i ≡ record { number = a.number; head = a.head; weight = record { seconds = a.weight.seconds; climb = a.weight.climb; toll = a.weight.toll } } = cc in
    fields

-- what is stated stands at its places
pub encode_holds : (lists : List (List Arc)) → Holds (encode lists) lists
encode_holds lists =
    let all : List Arc = all_arcs lists in
    record {
      points_are = field_value (length lists);
      records_are = field_value (length all);
      long = omega (arith, length-append (pairs 0 lists) (flat_map record_bytes all), pairs_length 0 lists, records_length all);
      offsets = λ p h. field_from (encode lists) _ (4 + 4 * p) 0 (4 + 4 * p) (from_pair lists p h) (omega arith) ∙ field_value (length (all_arcs (take p lists)));
      counts = λ p h. field_from (encode lists) _ (4 + 4 * p) 2 (6 + 4 * p) (from_pair lists p h) (omega arith) ∙ field_value (length (get_or lists p []));
      arcs = λ i d h. arc_from (encode lists) _ i (get_or all i d) (from_record lists (points (encode lists)) i d (field_value (length lists)) h);
    }
