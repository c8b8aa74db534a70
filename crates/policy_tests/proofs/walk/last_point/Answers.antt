use Rattle.std.proofs.Common.{◌≡◌, ℕ, suc, ◌-◌, List, [], ◌∷◌, length, refl, ap, ◌∙◌, arith, rules}
use Rattle.std.specs.Option.{option_map, unwrap_or}
use Rattle.std.specs.List.{slice_get}
use Rattle.policies.specs.declared.step.Step.{Step}
use Rattle.policies.specs.Automaton.{final}
use Rattle.policy_tests.proofs.walk.last_point.Goals as goal

final-last : (d p : ℕ) (s : Step) (ss : List Step) → unwrap_or (option_map (λ (t : Step). t.head) (slice_get (s ∷ ss) (length (s ∷ ss) - 1))) d ≡ final p (s ∷ ss)
final-last d p s [] = refl
final-last d p s (t ∷ ss) =
    let e : length (s ∷ t ∷ ss) - 1 ≡ suc (length (t ∷ ss) - 1) = omega arith in
    ap (λ k. unwrap_or (option_map (λ (t : Step). t.head) (slice_get (s ∷ t ∷ ss) k)) d) e ∙ final-last d s.head t ss

final-is : (p : ℕ) (ss : List Step) → unwrap_or (option_map (λ (t : Step). t.head) (slice_get ss (length ss - 1))) p ≡ final p ss
final-is p [] = refl
final-is p (s ∷ ss) = final-last p p s ss

pub returns : goal.returns
returns c =
    let end = final-is c.args.start c.args.steps.now in
    search rules
