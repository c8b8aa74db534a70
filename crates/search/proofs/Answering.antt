-- From the end of the loops to what the search answers.
use Rattle.std.proofs.Common.{◌≡◌, ℕ, List, ◌++◌, drop, None, Ok, Option, sym, ap, ◌∙◌, subst, ap₂}
use Rattle.streets.specs.declared.refusal.Refusal.{Refusal}
use Rattle.streets.specs.Network.{Network}
use Rattle.costs.specs.Kind.{Kind, Lawful as LawfulCost}
use Rattle.policies.specs.declared.step.Step.{Step}
use Rattle.policies.specs.Automaton.{Automaton, Lawful as LawfulPolicy}
use Rattle.search_laws.specs.Search.{Outcome}
use Rattle.search_laws.specs.Right.{Sound}
use Rattle.search_laws.proofs.Optimal.{search_right}
use Rattle.search_laws.proofs.Brief.{search_brief}
use Rattle.search.specs.declared.label.Label.{Label}
use Rattle.search.specs.declared.tour.Tour.{Tour}
use Rattle.search.specs.Links.{traced}
use Rattle.search.specs.Answer.{Told, Gives, Ends}

pub sound_search :
    {V : Type 0} {K : Kind V} {P : Automaton} {Permits : ℕ → List Step → Type 0} → LawfulCost K → LawfulPolicy P Permits →
    (N : Network) (start goal pool : ℕ) → Sound N K P Permits start goal pool
sound_search {K} {P} {Permits} costs policies N start goal pool =
    (search_right K costs N P Permits policies start goal pool, search_brief N K P start goal pool)

-- the tour that the loops found, with its walk read back into the first places of the route list
pub gives_tour :
    {V : Type 0} {pool' : List (Label V)} {written : List ℕ} {c : Option Refusal} {o : Outcome V} {i : ℕ} {tour : Tour V} (pool : List (Label V)) (before : List ℕ) →
    None ≡ c → Ends (Ok (i, tour)) pool' o → (d : Label V) → written ≡ traced pool' d tour.count i →
    Gives (Ok tour) pool pool' before (written ++ drop tour.count before) c o
gives_tour {pool'} {written} {o} {tour} pool before checks ends d wrote =
    let (bs, (trail, is)) = ends in
    let after = written ++ drop tour.count before in
    subst (λ c. Gives (Ok tour) pool pool' before after c o) checks
    (subst (λ o. Told (Ok tour) before after o) (sym is) (
      ap (λ n. Ok (record { cost = tour.cost; count = n; settled = tour.settled })) trail.hops,
      ap₂ (λ w n. w ++ drop n before) (wrote ∙ trail.traced d) trail.hops,
    ))
