-- Two policies at once keep the laws.
use Rattle.std.specs.Prelude.{◌≡◌, ℕ, ◌+◌, ◌/◌, ◌%◌, ◌^◌, ◌<◌, ◌≤◌, true, ◌&&◌, List, [], ◌∷◌, refl}
use Rattle.std.proofs.Common.{sym, ◌∙◌, arith}
use Rattle.std.proofs.lemmas.Nat.{pow_pos, pow-add, mul-add-lt, shr_high, mod_low, le-div}
use Rattle.std.proofs.lemmas.Bool.{and_parts, and_from}
use Rattle.std.proofs.lemmas.Bool.Decides.{nat_tests}
use Rattle.policies.specs.declared.step.Step.{Step}
use Rattle.policies.specs.Limits.{width_limit}
use Rattle.policies.specs.Automaton.{Automaton, Lawful, after, carried, accepts}
use Rattle.policies.specs.Both.{Both, joined, both}

-- the word after a walk from a word that is below the limit
pub after_lt : (m : Automaton) (P : ℕ → List Step → Type 0) → Lawful m P → (w : ℕ) (ss : List Step) → w < 2 ^ m.width → after m w ss < 2 ^ m.width
after_lt m P law w [] h = h
after_lt m P law w (s ∷ ss) h = after_lt m P law (m.cross w s.number s.head) ss (law.crosses w s.number s.head)

-- the word after every walk
pub carried_lt : (m : Automaton) (P : ℕ → List Step → Type 0) → Lawful m P → (p : ℕ) (ss : List Step) → carried m p ss < 2 ^ m.width
carried_lt m P law p ss = after_lt m P law (m.depart p) ss (law.departs p)

pub joined_lt : (j k high low : ℕ) → high < 2 ^ j → low < 2 ^ k → joined k high low < 2 ^ (k + j)
joined_lt j k high low h l = rw pow-add (mul-add-lt high (2 ^ k) low (2 ^ j) h l)

module _ (a b : Automaton) (P Q : ℕ → List Step → Type 0) (la : Lawful a P) (lb : Lawful b Q) where
  module _ (thin : a.width + b.width ≤ width_limit) where
    after_both : (x y : ℕ) (ss : List Step) → x < 2 ^ a.width → y < 2 ^ b.width
        → after (both a b) (joined a.width y x) ss ≡ joined a.width (after b y ss) (after a x ss)
    after_both x y [] hx hy = refl
    after_both x y (s ∷ ss) hx hy = grind (
      arith,
      nat_tests,
      joined_lt b.width a.width y x hy hx,
      shr_high y a.width x hx,
      mod_low y a.width x hx,
      after_both (a.cross x s.number s.head) (b.cross y s.number s.head) ss (la.crosses x s.number s.head) (lb.crosses y s.number s.head),
    )

    carried_both : (p : ℕ) (ss : List Step) → carried (both a b) p ss ≡ joined a.width (carried b p ss) (carried a p ss)
    carried_both p ss = grind (arith, nat_tests, after_both (a.depart p) (b.depart p) ss (la.departs p) (lb.departs p))

    accepts_both : (p : ℕ) (ss : List Step) → accepts (both a b) p ss ≡ (accepts a p ss && accepts b p ss)
    accepts_both p ss =
        let x = carried a p ss in
        let y = carried b p ss in
        let hx : x < 2 ^ a.width = carried_lt a P la p ss in
        grind (arith, nat_tests, carried_both p ss, mod_low y a.width x hx, shr_high y a.width x hx)

  -- a machine that says yes has room
  room_of : (p : ℕ) (ss : List Step) → accepts (both a b) p ss ≡ true → a.width + b.width ≤ width_limit
  room_of p ss e = grind (arith, nat_tests)

  both_only : (p : ℕ) (ss : List Step) → accepts (both a b) p ss ≡ true → Both a b P Q p ss
  both_only p ss e =
      let thin = room_of p ss e in
      let t = and_parts (accepts a p ss) (accepts b p ss) (sym (accepts_both thin p ss) ∙ e) in
      (thin, la.only p ss t.0, lb.only p ss t.1)

  both_every : (p : ℕ) (ss : List Step) → Both a b P Q p ss → accepts (both a b) p ss ≡ true
  both_every p ss t = accepts_both t.0 p ss ∙ and_from (accepts a p ss) (accepts b p ss) (la.every p ss t.1) (lb.every p ss t.2)

  pub both_lawful : Lawful (both a b) (Both a b P Q)
  both_lawful =
      record {
        narrow = grind (arith, nat_tests);
        departs = λ p. grind (arith, nat_tests, pow_pos, joined_lt b.width a.width (b.depart p) (a.depart p) (lb.departs p) (la.departs p));
        crosses = λ w n k.
            let x = la.crosses (w % 2 ^ a.width) n k in
            let y = lb.crosses (w / 2 ^ a.width) n k in
            grind (arith, nat_tests, pow_pos, joined_lt _ _ _ _ y x);
        only = both_only;
        every = both_every;
        stray = λ w n h far. grind (arith, nat_tests);
        refuses = λ w p far.
            grind (arith, nat_tests, lb.refuses (w / 2 ^ a.width) p, le-div (2 ^ b.width) w (2 ^ a.width) (pow_pos a.width), pow-add 2 a.width b.width);
        wide = λ e p ss t. absurd (grind (arith, nat_tests, t.0));
      }
