-- Two policies at once: the word of the second above that of the first.
use Rattle.std.specs.Prelude.{ℕ, ◌+◌, ◌*◌, ◌/◌, ◌%◌, ◌^◌, ◌≤◌, Bool, false, if◌then◌else◌, ◌&&◌, List, nat_le, nat_lt}
use Rattle.policies.specs.declared.step.Step.{Step}
use Rattle.policies.specs.Limits.{width_limit, too_wide}
use Rattle.policies.specs.Automaton.{Automaton}

-- Permitted is what both permit, if the bits of both fit into one word; otherwise nothing.
abbrev pub Both : Automaton → Automaton → (ℕ → List Step → Type 0) → (ℕ → List Step → Type 0) → ℕ → List Step → Type 0
Both a b P Q p ss = (a.width + b.width ≤ width_limit) × P p ss × Q p ss

abbrev pub roomy : Automaton → Automaton → Bool
roomy a b = nat_le (a.width + b.width) width_limit

-- a word above one of k bits
abbrev pub joined : ℕ → ℕ → ℕ → ℕ
joined k high low = high * 2 ^ k + low

abbrev pub both : Automaton → Automaton → Automaton
both a b = record {
  width = if roomy a b then a.width + b.width else too_wide;
  depart = λ p. if roomy a b then joined a.width (b.depart p) (a.depart p) else 0;
  cross = λ w n h.
      if roomy a b
      then if nat_lt w (2 ^ (a.width + b.width)) then joined a.width (b.cross (w / 2 ^ a.width) n h) (a.cross (w % 2 ^ a.width) n h) else 0
      else 0;
  ends = λ w p. if roomy a b then a.ends (w % 2 ^ a.width) p && b.ends (w / 2 ^ a.width) p else false;
}
