-- What the search answers, and what the route list then holds.
use Rattle.std.specs.Prelude.{◌≡◌, ℕ, ◌<◌, cond, ◌&&◌, List, ◌++◌, map, length, drop, Some, None, Ok, Err, Option, Result, nat_le, nat_lt}
use Rattle.streets.specs.declared.arc.Arc.{Arc}
use Rattle.streets.specs.declared.refusal.Refusal.{Refusal}
use Rattle.streets.specs.declared.refusal.Refusal.TheVariants.{PointOutside, PoolSize, RouteShort, TooWide, PoolExhausted, NoRoute}
use Rattle.streets.specs.Network.{View}
use Rattle.policies.specs.Automaton.{Automaton}
use Rattle.policies.specs.Limits.{width_limit}
use Rattle.search_laws.specs.Search.{Outcome, Tour as Toured, NoRoute as Unreached, PoolExhausted as Overfull}
use Rattle.search.specs.declared.label.Label.{Label}
use Rattle.search.specs.declared.tour.Tour.{Tour}
use Rattle.search.specs.Limits.{labels_limit}
use Rattle.search.specs.Links.{traced, Linked}

-- The checks before a search, in their order: the start and the goal are points, the pool has 1 to 65,536 labels, the route list a place for each, and the policy is not too wide.
abbrev pub checked : View → Automaton → (start goal labels places : ℕ) → Option Refusal
checked v P start goal labels places =
    cond (nat_lt start v.points)
    (cond (nat_lt goal v.points)
    (cond (nat_le 1 labels && nat_le labels labels_limit) (cond (nat_le labels places) (cond (nat_le P.width width_limit) None (Some TooWide)) (Some RouteShort)) (Some PoolSize))
    (Some PointOutside))
    (Some PointOutside)

abbrev pub numbers : List Arc → List ℕ
numbers bs = map (λ a. a.number) bs

-- A tour comes with its cost, its arcs in the first places of the route list (the others stay), and how many labels were settled; otherwise the list stays.
abbrev pub Told : {V : Type 0} → Result (Tour V) Refusal → (before after : List ℕ) → Outcome V → Type 0
Told r before after (Toured c bs t) = (r ≡ Ok (record { cost = c; count = length bs; settled = t })) × (after ≡ numbers bs ++ drop (length bs) before)
Told r before after (Unreached t) = (r ≡ Err (NoRoute t)) × (after ≡ before)
Told r before after (Overfull t) = (r ≡ Err (PoolExhausted t)) × (after ≡ before)

-- The first check that fails decides, and leaves pool and route list as they were; past the checks, the outcome of the search is told.
abbrev pub Gives : {V : Type 0} → Result (Tour V) Refusal → (pool pool' : List (Label V)) → (before after : List ℕ) → Option Refusal → Outcome V → Type 0
Gives r pool pool' before after (Some e) o = (r ≡ Err e) × (pool' ≡ pool) × (after ≡ before)
Gives r pool pool' before after None o = Told r before after o

-- the walk bs leads to the label at the place i in n arcs, by links of the pool
pub record Trail {V : Type 0} (pool : List (Label V)) (i n : ℕ) (bs : List Arc) : Type 0 where
  pub lower : i < length pool
  pub hops : n ≡ length bs
  pub short : n < length pool
  pub linked : (d : Label V) → Linked pool d n i
  pub traced : (d : Label V) → traced pool d n i ≡ numbers bs

-- the refusal that tells of an outcome with no tour
abbrev pub missed : {V : Type 0} → Outcome V → Option Refusal
missed (Toured c bs t) = None
missed (Unreached t) = Some (NoRoute t)
missed (Overfull t) = Some (PoolExhausted t)

-- How the loops end is the outcome; where a label arrived, its place and its walk as a tour are told, and the pool then holds that walk.
abbrev pub Ends : {V : Type 0} → Result (ℕ × Tour V) Refusal → List (Label V) → Outcome V → Type 0
Ends (Ok a) pool o = (bs : List Arc) × (Trail pool a.0 a.1.count bs × (o ≡ Toured a.1.cost bs a.1.settled))
Ends (Err e) pool o = missed o ≡ Some e
