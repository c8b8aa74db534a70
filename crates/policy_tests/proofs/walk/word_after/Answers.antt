use Rattle.std.proofs.Common.{◌≡◌, ℕ, List, [], ◌∷◌, refl, rules}
use Rattle.std.specs.List.{fold}
use Rattle.policies.specs.declared.step.Step.{Step}
use Rattle.policies.specs.Automaton.{Automaton, after}
use Rattle.policy_tests.proofs.walk.word_after.Goals as goal

-- a walk's word, step by step
fold-after : (m : Automaton) (w : ℕ) (ss : List Step) → fold (λ v s. m.cross v s.number s.head) w ss ≡ after m w ss
fold-after m w [] = refl
fold-after m w (s ∷ ss) = fold-after m (m.cross w s.number s.head) ss

pub returns : goal.returns
returns g c =
    let m = g.P.Policy.automaton c.args.policy.now in
    rw (← fold-after m (m.depart c.args.start) c.args.steps.now) (search rules)
