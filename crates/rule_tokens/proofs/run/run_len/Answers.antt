use Rattle.std.proofs.Common.{◌≡◌, ℕ, ◌<◌, Bool, true, false, not, List, length, slice_index_or, Option, Some, None, MatchOption, sym, ◌∙◌, rules, arith}
use Rattle.std.specs.List.{prefix_len, AllWithin, HoldsAt}
use Rattle.std.specs.Option.{unwrap_or}
use Rattle.std.proofs.lemmas.Iterator.{YieldsList-from_slice, IsFirst-from_position}
use Rattle.std.proofs.lemmas.List.Sums.{prefix_len_is}
use Rattle.rule_tokens.proofs.run.run_len.Goals as goal

abbrev Is : (ℕ → Bool) → Bool → ℕ → Type 0
Is test answer b = b < 256 → test b ≡ answer

-- the place of the first byte that does not pass is how many pass before it
first_place : (test : ℕ → Bool) (xs : List ℕ) (r : Option ℕ) → ((k : ℕ) → k < length xs → slice_index_or xs k 0 < 256)
    → MatchOption r (AllWithin (Is test true) xs 0 (length xs)) (λ i. (i < length xs) × HoldsAt (Is test false) xs i × AllWithin (Is test true) xs 0 i)
    → unwrap_or r (length xs) ≡ prefix_len test xs
first_place test xs None bytes all = sym (prefix_len_is test xs (length xs) 0 (omega arith) (λ k h. all k 0 (omega arith) h (bytes k h)) (λ h. absurd (omega arith)))
first_place test xs (Some i) bytes (within, stops, all) = sym (prefix_len_is test xs i 0 (omega arith) (λ k h. all k 0 (omega arith) h (bytes k (omega arith))) (λ h. stops 0 (bytes i h)))

pub returns-clause-run : goal.returns-clause-run
returns-clause-run g c = λ test is.
    c.unwrap_or.ensures
    ∙ first_place test _ _ (λ k h. omega (arith, c.type_inv.bytes k))
    (IsFirst-from_position _ _ _ (Is test false) (Is test true) c.position.ensures.ran (YieldsList-from_slice _ cc)
    (λ x q k small. let p : (r : Bool) × g.F.Fn.post c.args.passes (x.now, tt) r × (true ≡ not r) = search rules in grind (arith, is x.now p.0 small p.1))
    (λ x q k. (search rules, λ small. let p : (r : Bool) × g.F.Fn.post c.args.passes (x.now, tt) r × (false ≡ not r) = search rules in grind (arith, is x.now p.0 small p.1))))
