-- The loops of the search, in step with its definition.
use Rattle.std.proofs.Common.{◌≡◌, ℕ, zero, suc, ◌+◌, ◌-◌, ◌<◌, ◌≤◌, true, false, List, [], ◌∷◌, ◌++◌, length, get_or, take, set, Some, None, Ok, Option, sym, refl, ap, ◌∙◌, subst, ap₂, inl, inr, add-one, arith, length-set, get_or-set_same}
use Rattle.std.proofs.Math.Seq.{take-set-lt}
use Rattle.std.proofs.lemmas.Bool.{false≢true}
use Rattle.std.proofs.lemmas.List.{map-set, length_push, take_more_set}
use Rattle.std.specs.Option.{option_to_list}
use Rattle.streets.specs.declared.arc.Arc.{Arc}
use Rattle.streets.specs.Network.{View, network, listed}
use Rattle.costs.specs.Kind.{Kind}
use Rattle.policies.specs.Automaton.{Automaton}
use Rattle.search_laws.specs.Search.{Label as Walked, Outcome, Tour as Toured, put, offer, onward as onward_walk, settle as settle_walk, chain, expand, arrives, resume, run, departure, search}
use Rattle.search_laws.proofs.Steps.{run_no_route, run_tour, run_on}
use Rattle.search.specs.declared.label.Label.{Label}
use Rattle.streets.specs.declared.refusal.Refusal.TheVariants.{NoRoute, PoolExhausted}
use Rattle.search.specs.Links.{walked, bare, place, first, relaxed, departing, onward, followed, settle}
use Rattle.search.specs.Answer.{missed, Ends}
use Rattle.search.proofs.Strands.{Strand, rows, labels, Right, Sound, Keeps}
use Rattle.search.proofs.Finds.{none_waits}
use Rattle.search.proofs.Changes.{place-last, Offered, offer_both, Settled, settle_both}
use Rattle.search.proofs.Holds.{Held, as_many, right_at, trail}
use Rattle.search.proofs.Slots.{slot-more, slots_none}

module _ {V : Type 0} (v : View) (K : Kind V) (P : Automaton) (start goal size : ℕ) where
  abbrev whole : Outcome V
  whole = search (network v) K P start goal size

  -- t labels are settled, and the search goes on from the labels in use
  pub record Settling (pool : List (Label V)) (used t : ℕ) : Type 0 where
    pub strands : List (Strand V)
    pub same : length pool ≡ size
    pub counted : t ≤ size
    pub held : Held pool used t strands
    pub ahead : search (network v) K P start goal size ≡ run (network v) K P goal size (size - t) t (labels strands)

  -- the first k slots of the label x, which was settled at the place i, are followed
  pub record Slotting (pool : List (Label V)) (used t i : ℕ) (x : Label V) (k : ℕ) : Type 0 where
    pub walk : List Arc
    pub before : List (Walked V)
    pub strands : List (Strand V)
    pub same : length pool ≡ size
    pub counted : t ≤ size
    pub held : Held pool used t strands
    pub lower : i < length strands
    pub read : get_or strands i (settle x, walk) ≡ (settle x, walk)
    pub so_far : expand K P size (walked x walk) (listed (v.slot x.state.point) k) before ≡ Some (labels strands)
    pub ahead :
        search (network v) K P start goal size
        ≡ resume t (run (network v) K P goal size (size - t) t) (expand K P size (walked x walk) (listed (v.slot x.state.point) (v.slots x.state.point)) before)

module _ {V : Type 0} (v : View) (K : Kind V) (P : Automaton) (start goal : ℕ) where
  starts : (n : ℕ) → 0 < n → search (network v) K P start goal n ≡ run (network v) K P goal n (n - 0) 0 (departure K P start ∷ [])
  starts zero lt = absurd (omega arith)
  starts (suc n) lt = let all : suc n ≡ suc n - 0 = omega arith in ap (λ f. run (network v) K P goal (suc n) f 0 (departure K P start ∷ [])) all

module _ {V : Type 0} {v : View} {K : Kind V} {P : Automaton} {start goal size : ℕ} where
  pub settling_first : (pool : List (Label V)) → length pool ≡ size → 0 < size → Settling v K P start goal size (set pool 0 (departing K start (P.depart start))) 1 0
  settling_first pool same lt =
      let x = departing K start (P.depart start) in
      let q : Strand V = (x, []) in
      let some_room : 0 < length pool = omega arith in
      record {
        strands = q ∷ [];
        same = simp length-set same;
        counted = omega arith;
        held =
            record {
              fits = simp length-set (omega arith);
              in_use = take_more_set pool 0 x some_room;
              sound =
                  record {
                    own = λ i s low read.
                        let here : i ≡ 0 = omega arith in
                        let is : q ≡ s = ap (λ k. get_or (q ∷ []) k s) (sym here) ∙ read in
                        ap (λ (r : Strand V). place r.0.state.point r.0.state.word (x ∷ [])) (sym is) ∙ place-last [] 0 x refl ∙ ap Some (sym here);
                    each = (record { hops = refl; few = omega arith; fewer = λ e. absurd (false≢true e); reached = inl refl }, tt);
                  };
            };
        ahead = starts v K P start goal size lt;
      }

  module _ {pool : List (Label V)} {used t : ℕ} (now : Settling v K P start goal size pool used t) where
    pub stuck_none : None ≡ first K (take used pool) → missed (whole v K P start goal size) ≡ Some (NoRoute t)
    stuck_none at =
        ap missed
        (now.ahead
        ∙ run_no_route (network v) K P goal size (size - t) t (labels now.strands) (none_waits K now.strands (ap (first K) (sym now.held.in_use) ∙ sym at)))

    module _ (ne : t ≡ size → ⊥) {i : ℕ} {x : Label V} (at : Some (i, x) ≡ first K (take used pool)) where
      s : Settled K now.strands t i x
      s = settle_both K now.strands t i x now.held.sound (ap (first K) (sym now.held.in_use) ∙ sym at)

      abbrev after : List (Strand V)
      after = set now.strands i (settle x, s.walk)

      below : i < used
      below = let low = s.lower in let many = as_many pool used t now.strands now.held in omega arith

      held_after : Held (set pool i (settle x)) used (t + 1) after
      held_after =
          record {
            fits = simp length-set now.held.fits;
            in_use =
                take-set-lt used pool i (settle x) below
                ∙ ap (λ l. set l i (settle x)) now.held.in_use
                ∙ sym (map-set (λ q. q.0) now.strands i (settle x, s.walk));
            sound = subst (Sound after) (sym (add-one t)) s.sound;
          }

      lower_after : i < length after
      lower_after = simp length-set s.lower

      read_after : get_or after i (settle x, s.walk) ≡ (settle x, s.walk)
      read_after = get_or-set_same now.strands i (settle x, s.walk) (settle x, s.walk) s.lower

      one_more : whole v K P start goal size ≡ run (network v) K P goal size (suc (size - (t + 1))) t (labels now.strands)
      one_more =
          let c = now.counted in
          let left : size - t ≡ suc (size - (t + 1)) = omega arith in
          now.ahead ∙ ap (λ f. run (network v) K P goal size f t (labels now.strands)) left

      pub arrive :
          true ≡ arrives P goal (bare x) →
          Ends (Ok (i, record { cost = x.cost; count = x.hops; settled = t + 1 })) (set pool i (settle x)) (whole v K P start goal size)
      arrive test =
          let q : Strand V = (settle x, s.walk) in
          let right = right_at (set pool i (settle x)) used (t + 1) after held_after i q lower_after read_after in
          let lt = right.fewer refl in
          let c = now.counted in
          let same = now.same in
          let fits = now.held.fits in
          let low = below in
          let far : i < length pool = omega arith in
          let short : x.hops < length pool = omega arith in
          let led = λ (d : Label V). trail (set pool i (settle x)) used (t + 1) after held_after d x.hops i q (sym right.hops) lower_after read_after in (
            s.walk,
            (
              record {
                lower = simp length-set far;
                hops = right.hops;
                short = simp length-set short;
                linked = λ d. (led d).0;
                traced = λ d. (led d).1;
              },
              one_more
                  ∙ run_tour (network v) K P goal size (size - (t + 1)) t (labels now.strands) (walked x s.walk) s.chosen (sym test)
                  ∙ ap (Toured x.cost s.walk) (sym (add-one t)),
            ),
          )

      pub enter : false ≡ arrives P goal (bare x) → Slotting v K P start goal size (set pool i (settle x)) used (t + 1) i x 0
      enter test =
          record {
            walk = s.walk;
            before = labels after;
            strands = after;
            same = simp length-set now.same;
            counted = let c = now.counted in omega arith;
            held = held_after;
            lower = lower_after;
            read = read_after;
            so_far = refl;
            ahead =
                one_more
                ∙ run_on (network v) K P goal size (size - (t + 1)) t (labels now.strands) (walked x s.walk) s.chosen (sym test)
                ∙ ap (λ u. resume u (run (network v) K P goal size (size - (t + 1)) u) (expand K P size (walked x s.walk) ((network v).arcs x.state.point) (put (settle_walk (walked x s.walk)) (labels now.strands)))) (sym (add-one t))
                ∙ ap (λ rs. resume (t + 1) (run (network v) K P goal size (size - (t + 1)) (t + 1)) (expand K P size (walked x s.walk) ((network v).arcs x.state.point) rs)) s.put_is;
          }

  module _ {pool : List (Label V)} {used t i : ℕ} {x : Label V} {k : ℕ} (now : Slotting v K P start goal size pool used t i x k) where
    abbrev ps : List (Strand V)
    ps = now.strands

    settled_right : Right ps t (settle x, now.walk)
    settled_right = right_at pool used t ps now.held i (settle x, now.walk) now.lower now.read

    module _ (a : Arc) where
      abbrev q : Strand V
      q = (onward K P i x a, now.walk ++ (a ∷ []))

      right_on : Right ps t q
      right_on =
          let r = settled_right in
          let lt = r.fewer refl in
          let hops = r.hops in
          record {
            hops = let more = length_push now.walk a in omega arith;
            few = omega arith;
            fewer = λ e. absurd (false≢true e);
            reached = inr (record { from = (settle x, now.walk); by = a; lower = now.lower; read = now.read; done = refl; walk = refl; number = refl });
          }

      pub offered_on : Offered ps t (relaxed K size (onward K P i x a) (rows ps)) (offer K size (onward_walk K P (walked x now.walk) a) (labels ps))
      offered_on = offer_both K size ps t now.held.sound q refl right_on

    -- what the slot k leaves
    abbrev Next : List (Label V) → Option (List (Walked V)) → Type 0
    Next xs o = (qs : List (Strand V)) × ((xs ≡ rows qs) × ((o ≡ Some (labels qs)) × (Sound qs t × Keeps ps qs)))

    offered_some : (xs : List (Label V)) (o : Option (List (Walked V))) → Offered ps t (Some xs) o → Next xs o
    offered_some xs None h = absurd h
    offered_some xs (Some rs) (qs, (is, (e, more))) = (qs, (is, (ap Some e, more)))

    offered_none : (o : Option (List (Walked V))) → Offered ps t None o → o ≡ None
    offered_none None h = refl
    offered_none (Some rs) h = absurd h

    one-some :
        (o : Option Arc) (xs : List (Label V)) → followed K P size i x (rows ps) o ≡ Some xs →
        Next xs (expand K P size (walked x now.walk) (option_to_list o) (labels ps))
    one-some None xs e = let is : xs ≡ rows ps = cc in (ps, (is, (refl, (now.held.sound, λ i q lt read done. (lt, read)))))
    one-some (Some a) xs e =
        let (qs, (is, (f, more))) =
        offered_some xs (offer K size (onward_walk K P (walked x now.walk) a) (labels ps))
        (subst (λ (r : Option (List (Label V))). Offered ps t r (offer K size (onward_walk K P (walked x now.walk) a) (labels ps))) e (offered_on a)) in
        (qs, (is, (ap (λ r. chain r (λ ss. Some ss)) f, more)))

    one_none : (o : Option Arc) → followed K P size i x (rows ps) o ≡ None → expand K P size (walked x now.walk) (option_to_list o) (labels ps) ≡ None
    one_none None e = cc
    one_none (Some a) e =
        ap (λ r. chain r (λ ss. Some ss))
        (offered_none (offer K size (onward_walk K P (walked x now.walk) a) (labels ps))
        (subst (λ (r : Option (List (Label V))). Offered ps t r (offer K size (onward_walk K P (walked x now.walk) a) (labels ps))) e (offered_on a)))

    as_rows : followed K P (length pool) i x (take used pool) (v.slot x.state.point k) ≡ followed K P size i x (rows ps) (v.slot x.state.point k)
    as_rows = ap₂ (λ n l. followed K P n i x l (v.slot x.state.point k)) now.same now.held.in_use

    pub slots-on :
        (pool' : List (Label V)) (used' : ℕ) → length pool' ≡ size → used' ≤ length pool' →
        followed K P (length pool) i x (take used pool) (v.slot x.state.point k) ≡ Some (take used' pool') →
        Slotting v K P start goal size pool' used' t i x (k + 1)
    slots-on pool' used' same fits e =
        let (qs, (is, (f, (sound, keeps)))) = one-some (v.slot x.state.point k) (take used' pool') (sym as_rows ∙ e) in
        let (low, read) = keeps i (settle x, now.walk) now.lower now.read refl in
        record {
          walk = now.walk;
          before = now.before;
          strands = qs;
          same = same;
          counted = now.counted;
          held = record { fits = fits; in_use = is; sound = sound };
          lower = low;
          read = read;
          so_far = slot-more (network v) K P goal size (walked x now.walk) (v.slot x.state.point) k now.before (labels ps) now.so_far ∙ f;
          ahead = now.ahead;
        }

    pub slots-fail :
        k < v.slots x.state.point → followed K P (length pool) i x (take used pool) (v.slot x.state.point k) ≡ None →
        missed (whole v K P start goal size) ≡ Some (PoolExhausted t)
    slots-fail lt e =
        let none_left = one_none (v.slot x.state.point k) (sym as_rows ∙ e) in
        ap missed (now.ahead
        ∙ ap (resume t (run (network v) K P goal size (size - t) t))
        (slots_none (network v) K P goal size (walked x now.walk) (v.slot x.state.point) (k + 1) (v.slots x.state.point) now.before (omega arith)
        (slot-more (network v) K P goal size (walked x now.walk) (v.slot x.state.point) k now.before (labels ps) now.so_far ∙ none_left)))
