-- Bytes in which every check passes, said place by place.
use Rattle.std.specs.Prelude.{◌≡◌, ℕ, ◌+◌, ◌*◌, ◌<◌, ◌≤◌, List, length, ◌≢◌}
use mathlib.Core.HLevel.{Π_prop, ×_prop, ⊥_prop}
use native.Mathlib.Nat.{ℕ_set}
use Rattle.std.specs.Coded.{le_prop}
use Rattle.streets.specs.declared.arc.Arc.{Arc}
use Rattle.streets.specs.Network.{Fine}
use Rattle.streets.specs.Limits.{points_limit}
use Rattle.map_file.specs.Format.{records_limit}
use Rattle.map_file.specs.Reading.{points, records, offset, arc_at, end_before}

-- the length is the one that the counts ask for, and no map has more points
abbrev pub Sized : List ℕ → Type 0
Sized b = (length b ≡ 4 + 4 * points b + 10 * records b) × (points b ≤ points_limit)

abbrev pub InLine : List ℕ → Type 0
InLine b = (p : ℕ) → p < points b → offset b p ≡ end_before b p

abbrev pub Full : List ℕ → Type 0
Full b = end_before b (points b) ≡ records b

abbrev pub Limits : List ℕ → Type 0
Limits b = (i : ℕ) → i < records b → Fine (points b) (arc_at b i)

abbrev pub Distinct : List ℕ → Type 0
Distinct b = (i j : ℕ) → i < j → j < records b → (arc_at b i).number ≢ (arc_at b j).number

-- the counts are in range, and the length is theirs
pub record Counted (b : List ℕ) : Type 0 where
  pub some : 1 ≤ points b
  pub few : records b ≤ records_limit
  pub sized : Sized b

-- what a map needs of its bytes to answer from them; a file of no points has it too
pub record Readable (b : List ℕ) : Type 0 where
  pub sized : Sized b
  pub line : InLine b
  pub full : Full b
  pub limits : Limits b
  pub distinct : Distinct b

-- it has one proof at most, so it may be a ghost field
pub Readable-prop : (b : List ℕ) → IsProp (Readable b)
Readable-prop b x y i = record {
  sized = ×_prop (ℕ_set _ _) le_prop x.sized y.sized i;
  line = Π_prop (λ p. Π_prop (λ _. ℕ_set _ _)) x.line y.line i;
  full = ℕ_set _ _ x.full y.full i;
  limits = Π_prop (λ k. Π_prop (λ _. Fine-prop (points b) (arc_at b k))) x.limits y.limits i;
  distinct = Π_prop (λ j. Π_prop (λ k. Π_prop (λ _. Π_prop (λ _. Π_prop (λ _. ⊥_prop))))) x.distinct y.distinct i;
}
  where
    Fine-prop : (n : ℕ) (a : Arc) → IsProp (Fine n a)
    Fine-prop n a v w j = record {
      number = le_prop v.number w.number j;
      head = le_prop v.head w.head j;
      seconds = le_prop v.seconds w.seconds j;
      climb = le_prop v.climb w.climb j;
      toll = le_prop v.toll w.toll j;
    }

-- every check passes
pub record Sound (b : List ℕ) : Type 0 where
  pub counted : Counted b
  pub readable : Readable b
