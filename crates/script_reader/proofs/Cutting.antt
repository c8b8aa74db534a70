-- A text's first line and the lines of what stands after it.
use Rattle.std.proofs.Common.{◌≡◌, ℕ, suc, ◌+◌, ◌<◌, ◌≤◌, Bool, true, false, cond, List, [], ◌∷◌, length, take, drop, Some, None, refl, ap, ◌∙◌, one-add, arith, length-drop, ◌==◌}
use Rattle.std.specs.List.{prefix_len, position}
use Rattle.std.proofs.lemmas.Bool.Decides.{nat_tests}
use Rattle.script_reader.specs.Reading.{unbroken, onto, cut, without_return, without_returns, lines_of}

cut_some : (bs : List ℕ) → cut bs ≡ [] → ⊥
cut_some [] e = absurd (omega (arith, ap length e))
cut_some (b ∷ bs) e = by (unbroken b) (cut bs) (cut_some bs) e
  where
    by : (v : Bool) (ls : List (List ℕ)) → (ls ≡ [] → ⊥) → cond v (onto b ls) ([] ∷ ls) ≡ [] → ⊥
    by true [] some z = some refl
    by true (l ∷ ls) some z = absurd (omega (arith, ap length z))
    by false ls some z = absurd (omega (arith, ap length z))

cut_line : (xs : List ℕ) → prefix_len unbroken xs < length xs → cut xs ≡ take (prefix_len unbroken xs) xs ∷ cut (drop (prefix_len unbroken xs + 1) xs)
cut_line [] h = absurd (omega arith)
cut_line (b ∷ bs) h = by (unbroken b) refl h (cut_line bs)
  where
    by : (v : Bool) → unbroken b ≡ v → cond v (1 + prefix_len unbroken bs) 0 < length (b ∷ bs)
        → (prefix_len unbroken bs < length bs → cut bs ≡ take (prefix_len unbroken bs) bs ∷ cut (drop (prefix_len unbroken bs + 1) bs))
        → cut (b ∷ bs) ≡ take (cond v (1 + prefix_len unbroken bs) 0) (b ∷ bs) ∷ cut (drop (cond v (1 + prefix_len unbroken bs) 0 + 1) (b ∷ bs))
    by true e lt more =
        let one : 1 + prefix_len unbroken bs + 1 ≡ suc (prefix_len unbroken bs + 1) = omega arith in
        rw (e, one, one-add) (ap (onto b) (more (omega arith)))
    by false e lt more = rw e

cut_last : (xs : List ℕ) → length xs ≤ prefix_len unbroken xs → cut xs ≡ xs ∷ []
cut_last [] h = refl
cut_last (b ∷ bs) h = by (unbroken b) refl h (cut_last bs)
  where
    by : (v : Bool) → unbroken b ≡ v → length (b ∷ bs) ≤ cond v (1 + prefix_len unbroken bs) 0 → (length bs ≤ prefix_len unbroken bs → cut bs ≡ bs ∷ []) → cut (b ∷ bs) ≡ (b ∷ bs) ∷ []
    by true e le more = rw e (ap (onto b) (more (omega arith)))
    by false e le more = absurd (omega arith)

before_others : (l : List ℕ) (ls : List (List ℕ)) → (ls ≡ [] → ⊥) → without_returns (l ∷ ls) ≡ without_return l ∷ without_returns ls
before_others l [] some = absurd (some refl)
before_others l (m ∷ ls) some = refl

pub last_line : (xs : List ℕ) → None ≡ position (λ b. b == 10) xs → lines_of xs ≡ xs ∷ []
last_line xs none = let all : length xs ≤ prefix_len unbroken xs = grind (arith, nat_tests) in ap without_returns (cut_last xs all)

-- the first line at the parts as the code cuts them
pub first_line : (xs l after : List ℕ) (n : ℕ) → Some n ≡ position (λ b. b == 10) xs → l ≡ without_return (take n xs) → after ≡ drop (n + 1) xs
    → (lines_of xs ≡ l ∷ lines_of after) × (length after < length xs)
first_line xs l after n some is rest =
    let lt : prefix_len unbroken xs < length xs = grind (arith, nat_tests) in
    let at : n ≡ prefix_len unbroken xs = grind (arith, nat_tests) in
    let others = cut (drop (prefix_len unbroken xs + 1) xs) in (
      rw (is, rest, at) (ap without_returns (cut_line xs lt) ∙ before_others _ others (cut_some (drop (prefix_len unbroken xs + 1) xs))),
      rw (rest, length-drop (n + 1) xs) (omega arith),
    )
