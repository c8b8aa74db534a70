-- The bits of a book's word tell which walks break no rule.
use Rattle.std.specs.Prelude.{◌≡◌, ℕ, zero, suc, ◌+◌, ◌-◌, ◌^◌, ◌<◌, ◌≤◌, Bool, true, false, not, ◌&&◌, ◌||◌, List, [], ◌∷◌, ◌++◌, map, length, sum_by, ◌==◌, nat_lt, refl}
use Rattle.std.proofs.Common.{sym, ap, ap₂, ◌∙◌, subst, append_assoc, append-nil, add-one, arith, length-append}
use Rattle.std.proofs.Math.Bool.{or_assoc, or-false, and-true, and-false}
use Rattle.std.proofs.lemmas.List.{get_or_at, length_push}
use Rattle.std.proofs.lemmas.Nat.{pow_pos}
use Rattle.std.proofs.lemmas.List.Sums.{sum_by-cons}
use Rattle.std.proofs.lemmas.Bool.{and_left, lt-ltb, le-ltb, ne_eqb, and_parts, and_from, not-true, not_from_false, cond-true, cond-false, cond_both}
use Rattle.policies.specs.declared.step.Step.{Step}
use Rattle.policies.specs.Places.{packed, bit, packed_lt, packed_ext, bit_packed}
use Rattle.policies.specs.Automaton.{Lawful, final, after, carried, accepts}
use Rattle.rule_exprs.specs.declared.expr.Place.{Place}
use Rattle.rule_exprs.specs.declared.expr.Place.TheVariants as place
use Rattle.rule_exprs.specs.Limits.{terms_limit}
use Rattle.rule_exprs.specs.Formulas.{Formula, at_point, use_arc, from_point, to_point, negation, conjunction, disjunction, sequence, Formulas, none, more, marks, all_marks}
use Rattle.rule_text.specs.Statements.{Statement}
use Rattle.rule_book.specs.declared.event.Event.{Event}
use Rattle.rule_book.specs.declared.event.Event.TheVariants.{Depart, Cross, Arrive}
use Rattle.rule_book.specs.declared.term.Mark.{Mark}
use Rattle.rule_book.specs.declared.term.Mark.TheVariants as mark
use Rattle.rule_book.specs.declared.term.Term.{Term}
use Rattle.rule_book.specs.Events.{meets, departs, onward, events, in_order, ever}
use Rattle.rule_book.specs.Meaning.{holds, all_hold, one_holds, breaks, broken, Permits}
use Rattle.rule_book.specs.Terms.{alone, place_terms, terms, all_terms, rule_terms, book_terms}
use Rattle.rule_book.specs.Marking.{notes, term, ready, sets, marked, latest, value, all_values, one_value, rule_marks, kept, ruling}

-- tests on no event at all
in_order_none : (qs : List (Event → Bool)) (q : Event → Bool) → in_order (qs ++ q ∷ []) [] ≡ false
in_order_none [] q = refl
in_order_none (x ∷ qs) q = refl

-- one test and one event more
in_order_more : (qs : List (Event → Bool)) (q : Event → Bool) (es : List Event) (e : Event)
    → in_order (qs ++ q ∷ []) (es ++ e ∷ []) ≡ (in_order (qs ++ q ∷ []) es || (in_order qs es && q e))
in_order_more [] q [] e = or-false (q e && true) ∙ and-true (q e)
in_order_more [] q (f ∷ es) e = ap (λ b. (q f && true) || b) (in_order_more [] q es e) ∙ sym (or_assoc (q f && true) _ _)
in_order_more (x ∷ qs) q [] e = ap (λ b. (x e && b) || false) (in_order_none qs q) ∙ or-false (x e && false) ∙ and-false (x e)
in_order_more (x ∷ qs) q (f ∷ es) e =
    ap₂ (λ a b. (x f && a) || b) (in_order_more qs q es e) (in_order_more (x ∷ qs) q es e)
    ∙ regroup (x f) (in_order (qs ++ q ∷ []) es) (in_order qs es) (in_order (x ∷ (qs ++ q ∷ [])) es) (in_order (x ∷ qs) es) (q e)
  where
    regroup : (m a b c d k : Bool) → ((m && (a || (b && k))) || (c || (d && k))) ≡ (((m && a) || c) || (((m && b) || d) && k))
    regroup m a b c d k = grind arith

-- the tests of the terms that lead to term i, itself the last
abbrev linked : Bool → List (Event → Bool) → List (Event → Bool)
linked true qs = qs
linked false qs = []

abbrev chain : List Term → ℕ → List (Event → Bool)
chain ts zero = notes (term ts 0).mark ∷ []
chain ts (suc i) = linked (term ts (suc i)).chained (chain ts i) ++ notes (term ts (suc i)).mark ∷ []

-- the word after some events: bit i is set where events pass the tests that lead to term i, in order
abbrev noted : List Term → List Event → ℕ
noted ts h = packed (λ i. in_order (chain ts i) h) (length ts)

noted_bit : (ts : List Term) (h : List Event) (i : ℕ) → i < length ts → bit (noted ts h) i ≡ in_order (chain ts i) h
noted_bit ts h i l = bit_packed (λ k. in_order (chain ts k) h) (length ts) i l

ready_first : (chained : Bool) (w : ℕ) → ready chained w 0 ≡ true
ready_first true w = refl
ready_first false w = refl

ready_next : (chained : Bool) (w i : ℕ) (qs : List (Event → Bool)) (h : List Event) → bit w i ≡ in_order qs h → ready chained w (suc i) ≡ in_order (linked chained qs) h
ready_next true w i qs h e = ap₂ (λ x y. x || bit w y) (ne_eqb (suc i) 0 (λ e. omega arith)) (sub_suc i) ∙ e
  where
    sub_suc : (i : ℕ) → suc i - 1 ≡ i
    sub_suc i = omega arith
ready_next false w i qs h e = refl

-- bit i after one event more
sets_is : (ts : List Term) (h : List Event) (e : Event) (i : ℕ) → i < length ts → sets ts (noted ts h) e i ≡ in_order (chain ts i) (h ++ e ∷ [])
sets_is ts h e zero l =
    let t = term ts 0 in
    ap₂ (λ x y. x || (y && notes t.mark e)) (noted_bit ts h 0 l) (ready_first t.chained (noted ts h)) ∙ sym (in_order_more [] (notes t.mark) h e)
sets_is ts h e (suc i) l =
    let t = term ts (suc i) in
    ap₂ (λ x y. x || (y && notes t.mark e)) (noted_bit ts h (suc i) l) (ready_next t.chained (noted ts h) i (chain ts i) h (noted_bit ts h i (omega arith)))
    ∙ sym (in_order_more (linked t.chained (chain ts i)) (notes t.mark) h e)

-- the word after one event more
marked_is : (ts : List Term) (h : List Event) (e : Event) → marked ts (noted ts h) e ≡ noted ts (h ++ e ∷ [])
marked_is ts h e = packed_ext (sets ts (noted ts h) e) (λ i. in_order (chain ts i) (h ++ e ∷ [])) (length ts) (λ i l. sets_is ts h e i l)

chain_none : (ts : List Term) (i : ℕ) → in_order (chain ts i) [] ≡ false
chain_none ts zero = refl
chain_none ts (suc i) = in_order_none (linked (term ts (suc i)).chained (chain ts i)) (notes (term ts (suc i)).mark)

packed_none : (n : ℕ) → packed (λ _. false) n ≡ 0
packed_none zero = refl
packed_none (suc n) = rw (packed_none n) refl

noted_none : (ts : List Term) → noted ts [] ≡ 0
noted_none ts = packed_ext (λ i. in_order (chain ts i) []) (λ _. false) (length ts) (λ i _. chain_none ts i) ∙ packed_none (length ts)

-- the word of a walk
module _ (rs : List Statement) where
  abbrev own : List Term
  own = book_terms rs

  after_is : (h : List Event) (ss : List Step) → after (ruling rs) (noted own h) ss ≡ noted own (h ++ onward ss)
  after_is h [] = ap (noted own) (sym (append-nil h))
  after_is h (s ∷ ss) =
      let n = s.number in
      let p = s.head in
      ap (λ w. after (ruling rs) w ss)
      (cond-true (nat_lt (noted own h) (2 ^ length own)) (marked own (marked own (noted own h) (Cross n)) (Arrive p)) 0 (lt-ltb (noted own h) (2 ^ length own) (packed_lt (λ i. in_order (chain own i) h) (length own)))
      ∙ ap (λ w. marked own w (Arrive p)) (marked_is own h (Cross n))
      ∙ marked_is own (h ++ Cross n ∷ []) (Arrive p))
      ∙ after_is ((h ++ Cross n ∷ []) ++ Arrive p ∷ []) ss
      ∙ ap (noted own) (append_assoc (h ++ Cross n ∷ []) (Arrive p ∷ []) (onward ss) ∙ append_assoc h (Cross n ∷ []) (Arrive p ∷ onward ss))

  carried_is : (p : ℕ) (ss : List Step) → carried (ruling rs) p ss ≡ noted own (events p ss)
  carried_is p ss = ap (λ w. after (ruling rs) (marked own w (Depart p)) ss) (sym (noted_none own)) ∙ ap (λ w. after (ruling rs) w ss) (marked_is own [] (Depart p)) ∙ after_is (Depart p ∷ []) ss

-- terms stand in a list from k on
abbrev Stand : List Term → List Term → ℕ → Type 0
Stand ts [] k = Unit {0}
Stand ts (u ∷ us) k = (k < length ts) × (term ts k ≡ u) × Stand ts us (k + 1)

stand_split : (ts us vs : List Term) (k : ℕ) → Stand ts (us ++ vs) k → Stand ts us k × Stand ts vs (k + length us)
stand_split ts [] vs k s = (tt, subst (Stand ts vs) (omega arith) s)
stand_split ts (u ∷ us) vs k s =
    let r = stand_split ts us vs (k + 1) s.2 in ((s.0, s.1, r.0), subst (Stand ts vs) (omega arith) r.1)

stand_all : (pre us : List Term) → Stand (pre ++ us) us (length pre)
stand_all pre [] = tt
stand_all pre (u ∷ us) = (
  rw length-append (omega arith),
  get_or_at pre u us (record { mark = mark.Place (place.At 0); chained = false }) (length pre) refl,
  subst (λ l. Stand l us (length pre + 1)) (append_assoc pre (u ∷ []) us) (subst (Stand ((pre ++ u ∷ []) ++ us) us) (length_push pre u) (stand_all (pre ++ u ∷ []) us)),
)

chain_alone : (ts : List Term) (k : ℕ) → (term ts k).chained ≡ false → chain ts k ≡ notes (term ts k).mark ∷ []
chain_alone ts zero e = refl
chain_alone ts (suc k) e = ap (λ b. linked b (chain ts k) ++ notes (term ts (suc k)).mark ∷ []) e

chain_next : (ts : List Term) (k : ℕ) → (term ts (k + 1)).chained ≡ true → chain ts (k + 1) ≡ chain ts k ++ notes (term ts (k + 1)).mark ∷ []
chain_next ts k = subst (λ j. (term ts j).chained ≡ true → chain ts j ≡ chain ts k ++ notes (term ts j).mark ∷ []) (sym (add-one k))
    (λ e. ap (λ b. linked b (chain ts k) ++ notes (term ts (suc k)).mark ∷ []) e)

-- as many bits as marked terms
place_count : (qs : List Place) (chained : Bool) → length (place_terms qs chained) ≡ length qs
place_count [] chained = refl
place_count (q ∷ qs) chained = ap suc (place_count qs true)

mutual
  term_count : (f : Formula) → length (terms f) ≡ marks f
  term_count (at_point n) = refl
  term_count (use_arc n) = refl
  term_count (from_point n) = refl
  term_count (to_point n) = refl
  term_count (negation f) = term_count f
  term_count (conjunction fs) = all_count fs
  term_count (disjunction fs) = all_count fs
  term_count (sequence ps) = place_count ps false

  all_count : (fs : Formulas) → length (all_terms fs) ≡ all_marks fs
  all_count none = refl
  all_count (more f fs) = length-append (terms f) (all_terms fs) ∙ ap₂ ◌+◌ (term_count f) (all_count fs)

rule_count : (r : Statement) → length (rule_terms r) ≡ rule_marks r
rule_count r = length-append (terms r.condition) (terms r.consequence) ∙ ap₂ ◌+◌ (term_count r.condition) (term_count r.consequence)

pub book_count : (rs : List Statement) → length (book_terms rs) ≡ sum_by rule_marks rs
book_count [] = refl
book_count (r ∷ rs) = length-append (rule_terms r) (book_terms rs) ∙ ap₂ ◌+◌ (rule_count r) (book_count rs) ∙ sym (sum_by-cons rule_marks r rs)

-- `from` by its event, which only the departure can be
departs_later : (n : ℕ) (ss : List Step) → ever (departs n) (onward ss) ≡ false
departs_later n [] = refl
departs_later n (s ∷ ss) = departs_later n ss

departs_first : (n p : ℕ) (ss : List Step) → ever (departs n) (events p ss) ≡ (n == p)
departs_first n p ss = ap (λ b. (n == p && true) || b) (departs_later n ss) ∙ or-false (n == p && true) ∙ and-true (n == p)

-- what the word of a walk says of an expression is what the expression means
module _ (ts : List Term) (p : ℕ) (ss : List Step) where
  abbrev h : List Event
  h = events p ss

  abbrev w : ℕ
  w = noted ts h

  latest_is : (qs : List Place) (k : ℕ) (pre : List (Event → Bool)) → k < length ts → chain ts k ≡ pre → Stand ts (place_terms qs true) (k + 1)
      → latest qs w (k + 1) (bit w k) ≡ in_order (pre ++ map meets qs) h
  latest_is [] k pre l e s = noted_bit ts h k l ∙ ap (λ x. in_order x h) (e ∙ sym (append-nil pre))
  latest_is (q ∷ qs) k pre l e s =
      latest_is qs (k + 1) (pre ++ meets q ∷ []) s.0
      (chain_next ts k (ap (λ t. t.chained) s.1) ∙ ap₂ (λ x t. x ++ notes t.mark ∷ []) e s.1) s.2
      ∙ ap (λ x. in_order x h) (append_assoc pre (meets q ∷ []) (map meets qs))

  sequence_is : (qs : List Place) (k : ℕ) → Stand ts (place_terms qs false) k → latest qs w k true ≡ in_order (map meets qs) h
  sequence_is [] k s = refl
  sequence_is (q ∷ qs) k s =
      latest_is qs k (meets q ∷ []) s.0 (chain_alone ts k (ap (λ t. t.chained) s.1) ∙ ap (λ t. notes t.mark ∷ []) s.1) s.2

  alone_is : (q : Mark) (k : ℕ) → Stand ts (alone q) k → bit w k ≡ ever (notes q) h
  alone_is q k s = noted_bit ts h k s.0 ∙ ap (λ x. in_order x h) (chain_alone ts k (ap (λ t. t.chained) s.1) ∙ ap (λ t. notes t.mark ∷ []) s.1)

  mutual
    value_is : (f : Formula) (k : ℕ) → Stand ts (terms f) k → value f w k (final p ss) ≡ holds f p ss
    value_is (at_point n) k s = alone_is (mark.Place (place.At n)) k s
    value_is (use_arc n) k s = alone_is (mark.Place (place.Use n)) k s
    value_is (from_point n) k s = alone_is (mark.From n) k s ∙ departs_first n p ss
    value_is (to_point n) k s = refl
    value_is (negation f) k s = ap not (value_is f k s)
    value_is (conjunction fs) k s = all_values_are fs k s
    value_is (disjunction fs) k s = one_value_is fs k s
    value_is (sequence ps) k s = sequence_is ps k s

    all_values_are : (fs : Formulas) (k : ℕ) → Stand ts (all_terms fs) k → all_values fs w k (final p ss) ≡ all_hold fs p ss
    all_values_are none k s = refl
    all_values_are (more f fs) k s =
        let t = stand_split ts (terms f) (all_terms fs) k s in
        ap₂ ◌&&◌ (value_is f k t.0) (all_values_are fs (k + marks f) (subst (λ n. Stand ts (all_terms fs) (k + n)) (term_count f) t.1))

    one_value_is : (fs : Formulas) (k : ℕ) → Stand ts (all_terms fs) k → one_value fs w k (final p ss) ≡ one_holds fs p ss
    one_value_is none k s = refl
    one_value_is (more f fs) k s =
        let t = stand_split ts (terms f) (all_terms fs) k s in
        ap₂ ◌||◌ (value_is f k t.0) (one_value_is fs (k + marks f) (subst (λ n. Stand ts (all_terms fs) (k + n)) (term_count f) t.1))

  -- rule by rule
  abbrev unbroken : List Statement → Bool
  unbroken [] = true
  unbroken (r ∷ rs) = not (broken r p ss) && unbroken rs

  kept_is : (rs : List Statement) (k : ℕ) → Stand ts (book_terms rs) k → kept rs w k (final p ss) ≡ unbroken rs
  kept_is [] k s = refl
  kept_is (r ∷ rs) k s =
      let f = r.condition in
      let g = r.consequence in
      let t = stand_split ts (rule_terms r) (book_terms rs) k s in
      let u = stand_split ts (terms f) (terms g) k t.0 in
      let rest : Stand ts (book_terms rs) (k + rule_marks r) =
      subst (λ n. Stand ts (book_terms rs) n) (ap (λ n. k + n) (rule_count r)) t.1 in
      ap₂ (λ x y. not x && y)
      (ap₂ (breaks r.kind) (value_is f k u.0) (value_is g (k + marks f) (subst (λ n. Stand ts (terms g) (k + n)) (term_count f) u.1)))
      (kept_is rs (k + rule_marks r) rest)

  unbroken_only : (rs : List Statement) → unbroken rs ≡ true → Permits rs p ss
  unbroken_only [] e = tt
  unbroken_only (r ∷ rs) e =
      let t = and_parts (not (broken r p ss)) (unbroken rs) e in (not-true (broken r p ss) t.0, unbroken_only rs t.1)

  unbroken_every : (rs : List Statement) → Permits rs p ss → unbroken rs ≡ true
  unbroken_every [] a = refl
  unbroken_every (r ∷ rs) a = and_from (not (broken r p ss)) (unbroken rs) (not_from_false (broken r p ss) a.0) (unbroken_every rs a.1)

accepts_is : (rs : List Statement) (p : ℕ) (ss : List Step) → accepts (ruling rs) p ss ≡ unbroken (book_terms rs) p ss rs
accepts_is rs p ss =
    let ts = book_terms rs in
    let w = noted ts (events p ss) in
    ap (λ v. (ruling rs).ends v (final p ss)) (carried_is rs p ss)
    ∙ ap₂ ◌&&◌ (lt-ltb w (2 ^ length ts) (packed_lt (λ i. in_order (chain ts i) (events p ss)) (length ts))) (kept_is ts p ss rs 0 (stand_all [] ts))

-- A book answers as a policy, and a walk may end exactly where it breaks no rule.
pub ruling_lawful : (rs : List Statement) → sum_by rule_marks rs ≤ terms_limit → Lawful (ruling rs) (Permits rs)
ruling_lawful rs few =
    let ts = book_terms rs in
    let n = length ts in
    record {
      narrow = omega (arith, book_count rs);
      departs = λ p. packed_lt (sets ts 0 (Depart p)) n;
      crosses = λ w a p.
          let x = marked ts w (Cross a) in
          cond_both (nat_lt w (2 ^ n)) (marked ts x (Arrive p)) 0 (λ v. v < 2 ^ n) (λ _. packed_lt (sets ts x (Arrive p)) n) (λ _. pow_pos n);
      only = λ p ss e. unbroken_only ts p ss rs (sym (accepts_is rs p ss) ∙ e);
      every = λ p ss a. accepts_is rs p ss ∙ unbroken_every ts p ss rs a;
      stray = λ w a p far. cond-false (nat_lt w (2 ^ n)) (marked ts (marked ts w (Cross a)) (Arrive p)) 0 (le-ltb w (2 ^ n) far);
      refuses = λ w p far. and_left (nat_lt w (2 ^ n)) (kept rs w 0 p) (le-ltb w (2 ^ n) far);
      wide = λ e. absurd (omega (arith, book_count rs));
    }
