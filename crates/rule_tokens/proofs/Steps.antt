-- What one step over a text does to the tokens that are left.
use Rattle.std.proofs.Common.{◌≡◌, ℕ, zero, suc, ◌+◌, ◌<◌, ◌≤◌, Bool, true, false, List, [], ◌∷◌, length, get_or, take, drop, sym, refl, ap, ◌∙◌, add-zero, arith}
use Rattle.std.specs.List.{prefix_len}
use Rattle.std.proofs.lemmas.List.{get_or-take}
use Rattle.std.proofs.lemmas.List.Sums.{prefix_len-le-length, prefix_len_passes}
use Rattle.std.proofs.lemmas.List.Folds.{length-prefix_len}
use Rattle.std.proofs.lemmas.Bool.Decides.{nat_tests}
use Rattle.rule_tokens.specs.Lex.{Tok, good, name, letter, digit, blank, number, first, tail, tokens}

-- one byte more
drop_one : (n b : ℕ) (bs : List ℕ) → drop (1 + n) (b ∷ bs) ≡ drop n bs
drop_one n b bs = let e : 1 + n ≡ suc n = omega arith in ap (λ k. drop k (b ∷ bs)) e

-- blanks in front change nothing
pub past : (s : List ℕ) (p : ℕ) → tokens 0 (p + prefix_len blank s) (drop (prefix_len blank s) s) ≡ tokens 0 p s
past [] p = ap (λ q. tokens 0 q []) (add-zero p)
past (b ∷ bs) p = by (blank b) refl (past bs (p + 1))
  where
    by : (v : Bool) → blank b ≡ v → tokens 0 (p + 1 + prefix_len blank bs) (drop (prefix_len blank bs) bs) ≡ tokens 0 (p + 1) bs → tokens 0 (p + prefix_len blank (b ∷ bs)) (drop (prefix_len blank (b ∷ bs)) (b ∷ bs)) ≡ tokens 0 p (b ∷ bs)
    by true e rest =
        let q : p + (1 + prefix_len blank bs) ≡ p + 1 + prefix_len blank bs = omega arith in
        rw (e, drop_one (prefix_len blank bs) b bs, q) rest
    by false e rest = rw (e, add-zero, e)

-- a run ends where a byte does not pass
pub stops : (t : ℕ → Bool) → t 0 ≡ false → (s : List ℕ) → t (get_or (drop (prefix_len t s) s) 0 0) ≡ false
stops t none [] = none
stops t none (b ∷ bs) = by (t b) refl (stops t none bs)
  where
    by : (v : Bool) → t b ≡ v → t (get_or (drop (prefix_len t bs) bs) 0 0) ≡ false → t (get_or (drop (prefix_len t (b ∷ bs)) (b ∷ bs)) 0 0) ≡ false
    by true e rest = rw (e, drop_one (prefix_len t bs) b bs) rest
    by false e rest = rw e e

-- bytes that belong to a token are passed over
passed : (s : List ℕ) (k p : ℕ) → k ≤ length s → tokens k p s ≡ tokens 0 (p + k) (drop k s)
passed [] zero p h = ap (λ q. tokens 0 q []) (sym (add-zero p))
passed [] (suc k) p h = absurd (omega arith)
passed (b ∷ bs) zero p h = ap (λ q. tokens 0 q (b ∷ bs)) (sym (add-zero p))
passed (b ∷ bs) (suc k) p h =
    let e : p + 1 + k ≡ p + suc k = omega arith in
    passed bs k (p + 1) (omega arith) ∙ ap (λ q. tokens 0 q (drop k bs)) e

-- the token x, which is a run
taken : (t : ℕ → Bool) (b : ℕ) (bs : List ℕ) (p : ℕ) (x : Tok) → t b ≡ true → blank b ≡ false → tail b bs ≡ prefix_len t bs → first p b (b ∷ bs) ≡ x
    → tokens 0 p (b ∷ bs) ≡ x ∷ tokens 0 (p + prefix_len t (b ∷ bs)) (drop (prefix_len t (b ∷ bs)) (b ∷ bs))
taken t b bs p x passes solid len is =
    let q : p + (1 + prefix_len t bs) ≡ p + 1 + prefix_len t bs = omega arith in
    rw (passes, solid, len, drop_one (prefix_len t bs) b bs, q, passed bs (prefix_len t bs) (p + 1) (prefix_len-le-length t bs)) (ap (λ y. y ∷ tokens 0 (p + 1 + prefix_len t bs) (drop (prefix_len t bs) bs)) is)

-- at a letter, where the letters w were taken and r is left
pub worded : (s w r : List ℕ) (p q n : ℕ) → n ≡ prefix_len letter s → w ≡ take n s → r ≡ drop n s → q ≡ p + n → 97 ≤ get_or s 0 0 → get_or s 0 0 ≤ 122
    → tokens 0 p s ≡ good (name w) p ∷ tokens 0 q r
worded [] w r p q n len front rest place low high = absurd (omega arith)
worded (b ∷ bs) w r p q n len front rest place low high =
    let l : letter b ≡ true = grind (arith, nat_tests) in
    let solid : blank b ≡ false = grind (arith, nat_tests) in
    rw (front, rest, place, len) (taken letter b bs p _ l solid (rw l) (rw l))

-- at a digit, where the digits w were taken and r is left
pub numbered : (s w r : List ℕ) (p q n : ℕ) → n ≡ prefix_len digit s → w ≡ take n s → r ≡ drop n s → q ≡ p + n → 48 ≤ get_or s 0 0 → get_or s 0 0 ≤ 57
    → tokens 0 p s ≡ number w p ∷ tokens 0 q r
numbered [] w r p q n len front rest place low high = absurd (omega arith)
numbered (b ∷ bs) w r p q n len front rest place low high =
    let l : letter b ≡ false = grind (arith, nat_tests) in
    let d : digit b ≡ true = grind (arith, nat_tests) in
    let solid : blank b ≡ false = grind (arith, nat_tests) in
    rw (front, rest, place, len) (taken digit b bs p _ d solid (rw (l, d)) (rw (l, d)))

-- the bytes w of a run all pass
pub run_passes : (t : ℕ → Bool) (s w : List ℕ) (n k : ℕ) → n ≡ prefix_len t s → w ≡ take n s → k < length w → t (get_or w k 0) ≡ true
run_passes t s w n k len front h =
    let lt : k < prefix_len t s = rw (front, len, length-prefix_len) at h in
    rw (front, len, get_or-take) (prefix_len_passes t s k 0 lt)
