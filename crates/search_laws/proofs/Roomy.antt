-- A pool with a label for each point and word is never exhausted: no more numbers below n differ from one another than n.
use Rattle.std.proofs.Common.{◌≡◌, ℕ, zero, suc, ◌+◌, ◌*◌, ◌/◌, ◌%◌, ◌^◌, ◌<◌, ◌≤◌, cond, eqb, List, [], ◌∷◌, map, length, sym, refl, ap, ◌∙◌, subst, inl, inr, ⊎_elim, arith}
use Rattle.std.proofs.Math.Arith.{digits_lt, digits_div, digits_mod}
use Rattle.std.specs.List.{AllByRecursion}
use Rattle.std.proofs.lemmas.Bool.{eqb-true, eqb-false}
use Rattle.std.proofs.ByRecursion.{All-weaker, All-map}
use Rattle.std.proofs.lemmas.List.{length-map}
use Rattle.streets.specs.declared.arc.Arc.{Arc}
use Rattle.streets.specs.Network.{Network}
use Rattle.costs.specs.Kind.{Kind, Lawful as LawfulCost}
use Rattle.policies.specs.declared.step.Step.{Step}
use Rattle.policies.specs.Automaton.{Automaton, Lawful as LawfulPolicy}
use Rattle.search_laws.specs.Walks.{In, Walk, word_after}
use Rattle.search_laws.specs.Right.{Reachable, Apart, Right, Roomy}
use Rattle.search_laws.proofs.Pool.{on}
use Rattle.search_laws.proofs.Optimal.{search_right}

-- the list without the number n
abbrev without : ℕ → List ℕ → List ℕ
without n [] = []
without n (x ∷ xs) = cond (eqb x n) (without n xs) (x ∷ without n xs)

in_without : (n y : ℕ) (xs : List ℕ) → In y (without n xs) → In y xs
in_without n y [] h = h
in_without n y (x ∷ xs) h =
    on (eqb x n) (λ b. In y (cond b (without n xs) (x ∷ without n xs)) → In y (x ∷ xs))
    (λ t h. inr (in_without n y xs h))
    (λ t h. ⊎_elim (λ e. inl e) (λ k. inr (in_without n y xs k)) h)
    h

apart_without : (n : ℕ) (xs : List ℕ) → Apart xs → Apart (without n xs)
apart_without n [] a = tt
apart_without n (x ∷ xs) a =
    on (eqb x n) (λ b. Apart (cond b (without n xs) (x ∷ without n xs)))
    (λ t. apart_without n xs a.1)
    (λ t. (λ h. a.0 (in_without n x xs h), apart_without n xs a.1))

below_without : (n : ℕ) (xs : List ℕ) → AllByRecursion (λ x. x < suc n) xs → AllByRecursion (λ x. x < n) (without n xs)
below_without n [] h = tt
below_without n (x ∷ xs) h =
    on (eqb x n) (λ b. AllByRecursion (λ x. x < n) (cond b (without n xs) (x ∷ without n xs)))
    (λ t. below_without n xs h.1)
    (λ t. (let other : (x ≡ n) → ⊥ = eqb-false x n t in let up = h.0 in omega arith, below_without n xs h.1))

length_absent : (n : ℕ) (xs : List ℕ) → (In n xs → ⊥) → length (without n xs) ≡ length xs
length_absent n [] h = refl
length_absent n (x ∷ xs) h =
    on (eqb x n) (λ b. length (cond b (without n xs) (x ∷ without n xs)) ≡ suc (length xs))
    (λ t. absurd (h (inl (sym (eqb-true x n t)))))
    (λ t. ap suc (length_absent n xs (λ k. h (inr k))))

length_without : (n : ℕ) (xs : List ℕ) → Apart xs → length xs ≤ suc (length (without n xs))
length_without n [] a = omega arith
length_without n (x ∷ xs) a =
    on (eqb x n) (λ b. suc (length xs) ≤ suc (length (cond b (without n xs) (x ∷ without n xs))))
    (λ t. let same = length_absent n xs (λ h. a.0 (subst (λ y. In y xs) (sym (eqb-true x n t)) h)) in omega arith)
    (λ t. let less = length_without n xs a.1 in omega arith)

-- numbers below n that differ are at most n
few : (n : ℕ) (xs : List ℕ) → Apart xs → AllByRecursion (λ x. x < n) xs → length xs ≤ n
few zero [] a h = omega arith
few zero (x ∷ xs) a h = let less = h.0 in absurd (omega arith)
few (suc n) xs a h =
    let less = few n (without n xs) (apart_without n xs a) (below_without n xs h) in
    let one = length_without n xs a in
    omega arith

module _ {X Y : Type 0} (f : X → Y) (Q : X → Type 0) (apart : (x y : X) → Q x → Q y → f x ≡ f y → x ≡ y) where
  in_map : (x : X) (xs : List X) → Q x → AllByRecursion Q xs → In (f x) (map f xs) → In x xs
  in_map x [] q h k = k
  in_map x (y ∷ xs) q h k = ⊎_elim (λ e. inl (apart x y q h.0 e)) (λ l. inr (in_map x xs q h.1 l)) k

  apart_map : (xs : List X) → AllByRecursion Q xs → Apart xs → Apart (map f xs)
  apart_map [] h a = tt
  apart_map (x ∷ xs) h a = (λ k. a.0 (in_map x xs h.0 h.1 k), apart_map xs h.1 a.1)

-- what is reached is within the bounds
walk_within : (N : Network) → ((p : ℕ) (a : Arc) → In a (N.arcs p) → a.head < N.points) → (p : ℕ) (bs : List Arc) (q : ℕ) → p < N.points → Walk N p bs q → q < N.points
walk_within N h p [] q l e = subst (λ x. x < N.points) e l
walk_within N h p (a ∷ bs) q l w = walk_within N h a.head bs q (h p a w.0) w.1

word_within : (P : Automaton) (words : ℕ) → ((w n h : ℕ) → P.cross w n h < words) → (w : ℕ) (bs : List Arc) → w < words → word_after P w bs < words
word_within P words h w [] l = l
word_within P words h w (a ∷ bs) l = word_within P words h (P.cross w a.number a.head) bs (h w a.number a.head)

-- a state within the bounds as a number, and back
module _ (points words : ℕ) where
  abbrev Bounded : ℕ × ℕ → Type 0
  Bounded x = (x.0 < points) × (x.1 < words)

  abbrev code : ℕ × ℕ → ℕ
  code x = x.0 * words + x.1

  code_apart : (x y : ℕ × ℕ) → Bounded x → Bounded y → code x ≡ code y → x ≡ y
  code_apart x y h k e =
      let p : x.0 ≡ y.0 = sym (digits_div x.0 h.1) ∙ ap (λ n. n / words) e ∙ digits_div y.0 k.1 in
      let w : x.1 ≡ y.1 = sym (digits_mod x.0 h.1) ∙ ap (λ n. n % words) e ∙ digits_mod y.0 k.1 in
      λ i. (p i, w i)

  few_states : (xs : List (ℕ × ℕ)) → Apart xs → AllByRecursion Bounded xs → length xs ≤ points * words
  few_states xs a h =
      let less =
      few (points * words) (map code xs) (apart_map code Bounded code_apart xs h a)
      (All-map (λ n. n < points * words) code xs (All-weaker Bounded _ (λ x b. digits_lt b.0 b.1) xs h))
      in
      let same = length-map xs code in
      omega arith

pub search_roomy : {V : Type 0} (K : Kind V) → LawfulCost K → (N : Network) (P : Automaton) (Permits : ℕ → List Step → Type 0) → LawfulPolicy P Permits →
    (start goal pool : ℕ) → Roomy N K P start goal pool
search_roomy K L N P Permits M start goal pool b enough t e =
    let crowd = subst (Right N K P Permits start goal pool) e (search_right K L N P Permits M start goal pool) in
    let long = crowd.1 in
    let words = 2 ^ P.width in
    let less =
    few_states N.points words crowd.0 crowd.2
    (All-weaker (Reachable N P start) (Bounded N.points words)
    (λ x r. (
      walk_within N b.1 start r.0 x.0 b.0 r.1,
      subst (λ w. w < words) r.2 (word_within P words M.crosses (P.depart start) r.0 (M.departs start)),
    )) crowd.0 crowd.3)
    in
    absurd (omega arith)
