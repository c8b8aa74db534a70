-- No more labels are settled than the pool has.
use Rattle.std.proofs.Common.{ℕ, zero, suc, ◌+◌, ◌≤◌, List, [], ◌∷◌, arith, None, Some, Option}
use Rattle.streets.specs.Network.{Network}
use Rattle.costs.specs.Kind.{Kind}
use Rattle.policies.specs.Automaton.{Automaton}
use Rattle.search_laws.specs.Search.{Label, Outcome, put, settle, best, expand, arrives, resume, visit, turn, run, departure, search}
use Rattle.search_laws.specs.Right.{settlings}
use Rattle.search_laws.proofs.Pool.{on}

-- no more is settled than the fuel allows
brief_run : {V : Type 0} (N : Network) (K : Kind V) (P : Automaton) (goal pool fuel t : ℕ) (rs : List (Label V)) → settlings (run N K P goal pool fuel t rs) ≤ t + fuel
brief_run N K P goal pool zero t rs = omega arith
brief_run {V} N K P goal pool (suc fuel) t rs = go (best K rs) (brief_run N K P goal pool fuel (suc t))
  where
    on_goes : Label V → Outcome V
    on_goes m = resume (suc t) (run N K P goal pool fuel (suc t)) (expand K P pool m (N.arcs m.point) (put (settle m) rs))

    Later : Type 0
    Later = (ss : List (Label V)) → settlings (run N K P goal pool fuel (suc t) ss) ≤ suc t + fuel

    follow : (o : Option (List (Label V))) → Later → settlings (resume (suc t) (run N K P goal pool fuel (suc t)) o) ≤ t + suc fuel
    follow None later = omega arith
    follow (Some ss) later = omega (arith, later ss)

    go : (o : Option (Label V)) → Later → settlings (turn t (λ m. visit m (suc t) on_goes (arrives P goal m)) o) ≤ t + suc fuel
    go None later = omega arith
    go (Some m) later =
        on (arrives P goal m) (λ b. settlings (visit m (suc t) on_goes b) ≤ t + suc fuel)
        (λ u. omega arith)
        (λ u. follow (expand K P pool m (N.arcs m.point) (put (settle m) rs)) later)

pub search_brief : {V : Type 0} (N : Network) (K : Kind V) (P : Automaton) (start goal pool : ℕ) → settlings (search N K P start goal pool) ≤ pool
search_brief N K P start goal zero = omega arith
search_brief N K P start goal (suc pool) = omega (arith, brief_run N K P goal (suc pool) (suc pool) 0 (departure K P start ∷ []))
