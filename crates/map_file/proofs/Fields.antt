-- Fields, pairs and records as parts of lists of bytes.
use Rattle.std.proofs.Common.{◌≡◌, ℕ, zero, suc, ◌+◌, ◌*◌, ◌/◌, ◌%◌, ◌<◌, ◌≤◌, List, [], ◌∷◌, ◌++◌, length, get_or, take, drop, sym, refl, ap, add-zero, arith, length-append}
use Rattle.std.proofs.lemmas.List.{get_or-drop, drop_more, drop-drop}
use Rattle.std.specs.List.{flat_map}
use Rattle.streets.specs.declared.arc.Arc.{Arc}
use Rattle.map_file.specs.Format.{field, record_bytes, all_arcs, pairs}
use Rattle.map_file.specs.Reading.{field_at}

-- a field's two bytes give its number back
pub field_value : (x : ℕ) → x % 256 + 256 * (x / 256) ≡ x
field_value x = omega arith

-- two bytes are those of the field that they give
bytes_value : (x y : ℕ) → x < 256 → y < 256 → x ∷ (y ∷ []) ≡ field (x + 256 * y)
bytes_value x y small high =
    let low : x ≡ (x + 256 * y) % 256 = omega arith in
    let top : y ≡ (x + 256 * y) / 256 = omega arith in
    cc

-- the field at a place is found in the bytes from an earlier place on
pub field_from : (b c : List ℕ) (n i j : ℕ) → drop n b ≡ c → n + i ≡ j → field_at b j ≡ field_at c i
field_from b c n i j e h =
    let first = get_or-drop n b i 0 in
    let second = get_or-drop n b (i + 1) 0 in
    let next : n + (i + 1) ≡ j + 1 = omega arith in
    cc

-- the bytes from a place on begin with the field there
pub field_next : (b : List ℕ) (i j : ℕ) → i + 2 ≡ j → j ≤ length b → ((k : ℕ) → get_or b k 0 < 256) → drop i b ≡ field (field_at b i) ++ drop j b
field_next b i j e long small =
    let one : i + 1 + 1 ≡ j = omega arith in
    let first = drop_more b i 0 (omega arith) in
    let second = drop_more b (i + 1) 0 (omega arith) in
    let bytes = bytes_value (get_or b i 0) (get_or b (i + 1) 0) (small i) (small (i + 1)) in
    cc

-- a pair has four bytes
pub pairs_length : (o : ℕ) (lists : List (List Arc)) → length (pairs o lists) ≡ 4 * length lists
pairs_length o [] = refl
pairs_length o (arcs ∷ rest) = let before = pairs_length (o + length arcs) rest in omega arith

-- a record has ten bytes
pub records_length : (arcs : List Arc) → length (flat_map record_bytes arcs) ≡ 10 * length arcs
records_length [] = refl
records_length (a ∷ rest) = let before = records_length rest in omega arith

-- past p pairs come those of the other points
pub pairs_drop : (o p : ℕ) (lists : List (List Arc)) → drop (4 * p) (pairs o lists) ≡ pairs (o + length (all_arcs (take p lists))) (drop p lists)
pairs_drop o zero lists = ap (λ n. pairs n lists) (sym (add-zero o))
pairs_drop o (suc p) [] = let e : 4 * suc p ≡ suc (suc (suc (suc (4 * p)))) = omega arith in rw e
pairs_drop o (suc p) (arcs ∷ rest) =
    let e : 4 * suc p ≡ suc (suc (suc (suc (4 * p)))) = omega arith in
    let n : o + length arcs + length (all_arcs (take p rest)) ≡ o + length (arcs ++ all_arcs (take p rest)) = omega (arith, length-append arcs (all_arcs (take p rest))) in
    let later = pairs_drop (o + length arcs) p rest in
    cc

-- past i records come the others
pub records_drop : (i : ℕ) (arcs : List Arc) → drop (10 * i) (flat_map record_bytes arcs) ≡ flat_map record_bytes (drop i arcs)
records_drop zero arcs = refl
records_drop (suc i) [] = let e : 10 * suc i ≡ suc (10 * i + 9) = omega arith in rw e
records_drop (suc i) (a ∷ rest) =
    let e : 10 * suc i ≡ 10 + 10 * i = omega arith in
    let skipped = drop-drop (10 * i) 10 (flat_map record_bytes (a ∷ rest)) in
    let later = records_drop i rest in
    cc
