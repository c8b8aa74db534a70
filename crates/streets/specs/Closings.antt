-- A map without the marked arcs keeps the laws, and its lists are those below, filtered.
use Rattle.std.specs.Prelude.{◌≡◌, ℕ, zero, suc, Bool, true, false, cond, not, List, [], ◌∷◌, Some, None, filter, Option, refl}
use Rattle.std.proofs.Common.{sym, ap, arith}
use Rattle.std.specs.Option.{option_to_list}
use Rattle.std.proofs.lemmas.List.Elements.{filter-append}
use Rattle.streets.specs.declared.arc.Arc.{Arc}
use Rattle.streets.specs.Network.{View, Lawful, listed, network}
use Rattle.streets.specs.Closing.{marked, without, unless_marked, closed}

-- what is there was there below
pub was_below : (table : List Bool) (o : Option Arc) (a : Arc) → unless_marked table o ≡ Some a → o ≡ Some a
was_below table None a e = e
was_below table (Some x) a e = go (marked table x.number) e
  where
    go : (b : Bool) → cond b None (Some x) ≡ Some a → Some x ≡ Some a
    go true h = let z : ◌≡◌ {A = ℕ} 0 1 = cc in absurd (omega arith)
    go false h = h

pub closed_lawful : (table : List Bool) (v : View) → Lawful v → Lawful (closed table v)
closed_lawful table v law =
    record {
      points = law.points;
      outside = law.outside;
      past = λ p k h. ap (unless_marked table) (law.past p k h);
      fine = λ p k a e. law.fine p k a (was_below table _ a e);
      apart = λ p q j k a b e f. law.apart p q j k a b (was_below table _ a e) (was_below table _ b f);
    }

module _ (table : List Bool) where
  kept_one : (o : Option Arc) → option_to_list (unless_marked table o) ≡ filter (λ a. not (marked table a.number)) (option_to_list o)
  kept_one None = refl
  kept_one (Some a) = go (marked table a.number)
    where
      go : (b : Bool) → option_to_list (cond b None (Some a)) ≡ cond (not b) (a ∷ []) []
      go true = refl
      go false = refl

  listed_kept : (f : ℕ → Option Arc) (n : ℕ) → listed (λ k. unless_marked table (f k)) n ≡ filter (λ a. not (marked table a.number)) (listed f n)
  listed_kept f zero = refl
  listed_kept f (suc n) = rw (listed_kept f n, kept_one (f n)) (sym (filter-append (λ a. not (marked table a.number)) (listed f n) (option_to_list (f n))))

  -- the layer means the network below without the marked arcs
  pub closed_arcs : (v : View) (p : ℕ) → (network (closed table v)).arcs p ≡ (without table (network v)).arcs p
  closed_arcs v p = listed_kept (v.slot p) (v.slots p)
