-- The word of a walk has a place set exactly where the walk has been at that stop.
use Rattle.std.specs.Prelude.{◌≡◌, ℕ, ◌≤◌, Bool, true, false, ◌||◌, List, [], ◌∷◌, length, take, ◌==◌, slice_index}
use Rattle.std.proofs.Common.{sym, arith, length-take}
use Rattle.std.proofs.Math.Bool.{or_assoc, or-false}
use Rattle.std.proofs.lemmas.Nat.{pow_pos, or_lt}
use Rattle.std.proofs.ByRecursion.{All-get_or, All-from_get_or}
use Rattle.std.proofs.lemmas.Bool.Decides.{nat_tests}
use Rattle.policies.specs.Places.{packed, packed_lt, packed_ext, bit_packed, or_packed, packed_full}
use Rattle.policies.specs.declared.step.Step.{Step}
use Rattle.policies.specs.declared.stops.Stops.{Stops}
use Rattle.policies.specs.Limits.{stops_limit}
use Rattle.policies.specs.Automaton.{Lawful, after, carried, accepts}
use Rattle.policies.specs.Stops.{Visits, VisitsAll, doorsteps, here, stopping}

-- the walk comes to x by a step
abbrev later : ℕ → List Step → Bool
later x [] = false
later x (s ∷ ss) = x == s.head || later x ss

visits_only : (x p : ℕ) (ss : List Step) → (x == p || later x ss) ≡ true → Visits x p ss
visits_only x p [] e = grind (arith, nat_tests)
visits_only x p (s ∷ ss) e = grind (arith, nat_tests, visits_only x s.head ss)

visits_every : (x p : ℕ) (ss : List Step) → Visits x p ss → (x == p || later x ss) ≡ true
visits_every x p [] v = grind (arith, nat_tests)
visits_every x p (s ∷ ss) v = grind (arith, nat_tests, visits_every x s.head ss)

module _ (stops : List ℕ) where
  abbrev n : ℕ
  n = length stops

  abbrev stop : ℕ → ℕ
  stop i = slice_index stops i

  after_packed : (f : ℕ → Bool) (ss : List Step) → after (stopping stops) (packed f n) ss ≡ packed (λ i. f i || later (stop i) ss) n
  after_packed f [] = packed_ext f (λ i. f i || false) n (λ i h. sym (or-false (f i)))
  after_packed f (s ∷ ss) =
      let g : ℕ → Bool = λ i. stop i == s.head in
      let regroup = packed_ext (λ i. (f i || g i) || later (stop i) ss) (λ i. f i || later (stop i) (s ∷ ss)) n (λ i h. or_assoc (f i) (g i) (later (stop i) ss)) in
      grind (arith, nat_tests, packed_lt f n, or_packed f g n, after_packed (λ i. f i || g i) ss, regroup)

  abbrev been : ℕ → List Step → ℕ → Bool
  been p ss i = stop i == p || later (stop i) ss

  carried_is : (p : ℕ) (ss : List Step) → carried (stopping stops) p ss ≡ packed (been p ss) n
  carried_is p ss = after_packed (λ i. stop i == p) ss

  visits_all_only : (p : ℕ) (ss : List Step) → accepts (stopping stops) p ss ≡ true → VisitsAll stops p ss
  visits_all_only p ss e =
      All-from_get_or (λ x. Visits x p ss) stops 0
      (λ i h. visits_only (stop i) p ss (grind (arith, nat_tests, carried_is p ss, packed_full n, bit_packed (been p ss) n i h, bit_packed (λ _. true) n i h)))

  visits_all_every : (p : ℕ) (ss : List Step) → VisitsAll stops p ss → accepts (stopping stops) p ss ≡ true
  visits_all_every p ss all =
      let full = packed_ext (been p ss) (λ _. true) n (λ i h. visits_every (stop i) p ss (All-get_or (λ x. Visits x p ss) stops i 0 h all)) in
      grind (arith, nat_tests, carried_is p ss, full, packed_full n)

pub stopping_lawful : (stops : List ℕ) → length stops ≤ stops_limit → Lawful (stopping stops) (VisitsAll stops)
stopping_lawful stops few =
    let n = length stops in
    record {
      narrow = omega arith;
      departs = λ p. packed_lt (λ i. slice_index stops i == p) n;
      crosses = λ w m h. grind (arith, nat_tests, pow_pos, or_lt n w (here stops h), packed_lt (λ i. slice_index stops i == h) n);
      only = visits_all_only stops;
      every = visits_all_every stops;
      stray = λ w m h far. grind (arith, nat_tests);
      refuses = λ w p far. grind (arith, nat_tests, pow_pos n);
      wide = λ e. absurd (omega arith);
    }

pub few : (count : ℕ) (table : List ℕ) → count ≤ stops_limit → length (take count table) ≤ stops_limit
few count table h = simp length-take (omega arith)

pub few_doorsteps : (s : Stops) → length (doorsteps s) ≤ stops_limit
few_doorsteps s = few s.count s.table s.few
