-- A yard grid keeps the laws of a map.
use Rattle.std.specs.Prelude.{◌≡◌, ℕ, zero, suc, ◌+◌, ◌-◌, ◌*◌, ◌/◌, ◌%◌, ◌^◌, ◌<◌, ◌≤◌, Bool, true, false, cond, Some, None, Option, ◌==◌, nat_lt, refl}
use Rattle.std.proofs.Common.{subst, ap, arith}
use Rattle.std.proofs.lemmas.Nat.{mul-le, mul-add-lt, div_below, mod_below}
use Rattle.std.proofs.lemmas.Bool.{ltb-true, le-ltb, cond-false}
use Rattle.std.proofs.lemmas.Option.{cond_some}
use Rattle.streets.specs.declared.arc.Arc.{Arc}
use Rattle.streets.specs.declared.grid.GridMap.{GridMap}
use Rattle.streets.specs.Limits.{points_limit, side_limit, seconds_limit, climb_limit}
use Rattle.streets.specs.Network.{View, Lawful}
use Rattle.streets.specs.Grid.{neighbour, way, grid}

pub within_if : {X : Type 0} (b : Bool) (x : Option X) (a : X) → cond b x None ≡ Some a → (b ≡ true) × (x ≡ Some a)
within_if true x a e = (refl, e)
within_if false x a e = let z : ◌≡◌ {A = ℕ} 0 1 = cc in absurd (omega arith)

-- what is known of the arc in slot k of point p
record Step (r c s u p k : ℕ) (a : Arc) : Type 0 where
  here : p < r * c
  slot : k < 4
  number : a.number ≡ 4 * p + k
  head : a.head < r * c
  seconds : a.weight.seconds ≡ s
  climb : a.weight.climb ≤ u
  toll : a.weight.toll ≡ 0

at_most : (b : Bool) (u : ℕ) → cond b u 0 ≤ u
at_most true u = omega arith
at_most false u = omega arith

module _ (r c : ℕ) where
  on_grid : (i j : ℕ) → i < r → j < c → i * c + j < r * c
  on_grid i j hi hj = omega (arith, mul-add-lt i c j r hi hj)

  -- a neighbour is on the grid, and only slots 0 to 3 have one
  neighbour_on_grid : (i j k h : ℕ) → i < r → j < c → neighbour r c i j k ≡ Some h → (h < r * c) × (k < 4)
  neighbour_on_grid i j zero h hi hj e =
      let (t, x) = cond_some _ _ h e in let b = on_grid i (j + 1) hi (ltb-true (j + 1) c t) in (omega arith, omega arith)
  neighbour_on_grid i j (suc zero) h hi hj e =
      let (t, x) = cond_some _ _ h e in let b = on_grid (i + 1) j (ltb-true (i + 1) r t) hj in (omega arith, omega arith)
  neighbour_on_grid i j (suc (suc zero)) h hi hj e =
      let (t, x) = cond_some _ _ h e in let b = on_grid i (j - 1) hi (omega arith) in (omega arith, omega arith)
  neighbour_on_grid i j (suc (suc (suc zero))) h hi hj e =
      let (t, x) = cond_some _ _ h e in let b = on_grid (i - 1) j (omega arith) hj in (omega arith, omega arith)
  neighbour_on_grid i j (suc (suc (suc (suc k)))) h hi hj e = let z : ◌≡◌ {A = ℕ} 0 1 = cc in absurd (omega arith)

  pub beside_on_grid : (p k h : ℕ) → p < r * c → neighbour r c (p / c) (p % c) k ≡ Some h → (h < r * c) × (k < 4)
  beside_on_grid p k h here =
      let some : 0 < c = positive c here in neighbour_on_grid (p / c) (p % c) k h (div_below p c r some here) (mod_below p c some)
    where
      positive : (d : ℕ) → p < r * d → 0 < d
      positive zero b = absurd (omega arith)
      positive (suc d) b = omega arith

  no_neighbour : (i j k : ℕ) → 4 ≤ k → neighbour r c i j k ≡ None
  no_neighbour i j zero h = absurd (omega arith)
  no_neighbour i j (suc zero) h = absurd (omega arith)
  no_neighbour i j (suc (suc zero)) h = absurd (omega arith)
  no_neighbour i j (suc (suc (suc zero))) h = absurd (omega arith)
  no_neighbour i j (suc (suc (suc (suc k)))) h = refl

module _ (r c s u : ℕ) where
  way_step : (p k : ℕ) (o : Option ℕ) (a : Arc) → p < r * c → ((h : ℕ) → o ≡ Some h → (h < r * c) × (k < 4)) → way s u p k o ≡ Some a → Step r c s u p k a
  way_step p k None a here near e = let z : ◌≡◌ {A = ℕ} 0 1 = cc in absurd (omega arith)
  way_step p k (Some h) a here near e =
      let (on, slot) = near h refl in
      let is : record { number = 4 * p + k; head = h; weight = record { seconds = s; climb = cond (k == 3) u 0; toll = 0 } } ≡ a = cc in
      subst (Step r c s u p k) is (record { here = here; slot = slot; number = refl; head = on; seconds = refl; climb = at_most (k == 3) u; toll = refl })

  grid_step : (p k : ℕ) (a : Arc) → (grid r c s u).slot p k ≡ Some a → Step r c s u p k a
  grid_step p k a e =
      let (t, x) = within_if (nat_lt p (r * c)) (way s u p k (neighbour r c (p / c) (p % c) k)) a e in
      let here = ltb-true p (r * c) t in
      way_step p k (neighbour r c (p / c) (p % c) k) a here (λ h. beside_on_grid r c p k h here) x

  past_slots : (p k : ℕ) (b : Bool) → cond b 4 0 ≤ k → cond b (way s u p k (neighbour r c (p / c) (p % c) k)) None ≡ None
  past_slots p k true h = ap (way s u p k) (no_neighbour r c (p / c) (p % c) k h)
  past_slots p k false h = refl

  pub grid_points : r ≤ side_limit → c ≤ side_limit → r * c ≤ points_limit
  grid_points = mul-le r c side_limit side_limit

  pub grid_lawful : r ≤ side_limit → c ≤ side_limit → s ≤ seconds_limit → u ≤ climb_limit → Lawful (grid r c s u)
  grid_lawful hr hc hs hu =
      let n = grid_points hr hc in
      record {
        points = n;
        outside = λ p h. cond-false (nat_lt p (r * c)) 4 0 (le-ltb p (r * c) h);
        past = λ p k h. past_slots p k (nat_lt p (r * c)) h;
        fine = λ p k a e.
            let t = grid_step p k a e in
            record { number = omega arith; head = t.head; seconds = omega arith; climb = omega arith; toll = omega arith };
        apart = λ p q j k a b e f same.
            let t = grid_step p j a e in let w = grid_step q k b f in (omega arith, omega arith);
      }

-- what a grid that was made means
abbrev pub yard : GridMap → View
yard g = grid g.rows g.columns g.seconds g.climb

pub yard_lawful : (g : GridMap) → Lawful (yard g)
yard_lawful g = grid_lawful g.rows g.columns g.seconds g.climb g.rows_fit g.columns_fit g.seconds_fit g.climb_fits

-- the number and the head of an arc fit into their fields
pub small_arc : (g : GridMap) (p k h : ℕ) → p < g.rows * g.columns → neighbour g.rows g.columns (p / g.columns) (p % g.columns) k ≡ Some h → (4 * p + k < 2 ^ 16) × (h < 2 ^ 16)
small_arc g p k h here e =
    let n = grid_points g.rows g.columns 0 0 g.rows_fit g.columns_fit in
    let (on, slot) = beside_on_grid g.rows g.columns p k h here e in
    (omega arith, omega arith)
