-- Walks as a policy sees them, what a policy answers, and the laws that tie its answers to a set of walks.
use Rattle.std.specs.Prelude.{◌≡◌, ℕ, ◌^◌, ◌<◌, ◌≤◌, Bool, true, false, List, [], ◌∷◌}
use Rattle.policies.specs.declared.step.Step.{Step}
use Rattle.policies.specs.Limits.{too_wide}

-- where a walk ends that starts at p
abbrev pub final : ℕ → List Step → ℕ
final p [] = p
final p (s ∷ ss) = final s.head ss

-- What a policy answers: its width; the word on departing from a point; the word after a word, an arc's number and its head; whether a walk with a word may end at a point.
pub record Automaton : Type 0 where
  pub width : ℕ
  pub depart : ℕ → ℕ
  pub cross : ℕ → ℕ → ℕ → ℕ
  pub ends : ℕ → ℕ → Bool

-- the word after the steps, from the word w on
abbrev pub after : Automaton → ℕ → List Step → ℕ
after m w [] = w
after m w (s ∷ ss) = after m (m.cross w s.number s.head) ss

-- the word after a walk
abbrev pub carried : Automaton → ℕ → List Step → ℕ
carried m p ss = after m (m.depart p) ss

-- whether the answers say that a walk may end where it ends
abbrev pub accepts : Automaton → ℕ → List Step → Bool
accepts m p ss = m.ends (carried m p ss) (final p ss)

-- The laws. A word stays below 2^width at each step, and so after every walk. A walk may end exactly when it is permitted (`only`, `every`).
-- After a word that is not below 2^width the next word is 0, and with it no walk may end. A policy that is too wide permits nothing.
pub record Lawful (m : Automaton) (Permits : ℕ → List Step → Type 0) : Type 0 where
  pub narrow : m.width ≤ too_wide
  pub departs : (p : ℕ) → m.depart p < 2 ^ m.width
  pub crosses : (w n h : ℕ) → m.cross w n h < 2 ^ m.width
  pub only : (p : ℕ) (ss : List Step) → accepts m p ss ≡ true → Permits p ss
  pub every : (p : ℕ) (ss : List Step) → Permits p ss → accepts m p ss ≡ true
  pub stray : (w n h : ℕ) → 2 ^ m.width ≤ w → m.cross w n h ≡ 0
  pub refuses : (w p : ℕ) → 2 ^ m.width ≤ w → m.ends w p ≡ false
  pub wide : m.width ≡ too_wide → (p : ℕ) (ss : List Step) → Permits p ss → ⊥
