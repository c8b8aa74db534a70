use Rattle.std.proofs.Common.{◌≡◌, ℕ, List, [], ◌∷◌, ◌||◌, map, eqb, refl, ap, ◌∙◌, rules}
use Rattle.std.specs.List.{list_any}
use Rattle.std.proofs.lemmas.Iterator.{YieldsList-from_slice}
use Rattle.std.proofs.lemmas.Iterator.Search.{any_from_yields_List}
use borrow.Author.Tests.{tests}
use Rattle.rule_text.specs.declared.rule.Rule.{Rule}
use Rattle.rule_text.specs.Statements.{stated}
use Rattle.rule_text.specs.Books.{taken}
use Rattle.rule_text.proofs.reading.is_taken.Goals as goal

taken_stated : (rs : List Rule) (n : ℕ) → list_any (λ (r : Rule). eqb r.number n) rs ≡ taken (map stated rs) n
taken_stated [] n = refl
taken_stated (r ∷ rs) n = ap (λ v. eqb r.number n || v) (taken_stated rs n)

pub returns : goal.returns
returns c = any_from_yields_List (λ (r : Rule). eqb r.number c.args.number) _ _ _ c.any.ensures.ran (YieldsList-from_slice c.args.rules.now cc) (λ x b q k. search (rules, tests)) ∙ taken_stated c.args.rules.now c.args.number
