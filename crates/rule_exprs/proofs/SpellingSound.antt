-- An expression that is given was spelled.
use Rattle.std.proofs.Common.{ℕ, zero, suc, ◌+◌, ◌≤◌, true, false, List, [], ◌∷◌, ◌++◌, length, sum_by, refl, add-zero, zero-add, arith}
use Rattle.std.specs.List.{flat_map, AllByRecursion}
use Rattle.streets.specs.Limits.{points_limit, numbers_end}
use Rattle.rule_tokens.specs.Lex.{name, opens, closes, Lexeme}
use Rattle.rule_exprs.specs.Limits.{depth_limit, members_limit}
use Rattle.rule_exprs.specs.Keywords.{spelling}
use Rattle.rule_exprs.specs.declared.keyword.Keyword.{Keyword}
use Rattle.rule_exprs.specs.declared.keyword.Keyword.TheVariants.{Ban, Need, Then, At, Use, From, To, Not, And, Or, Seq}
use Rattle.rule_exprs.specs.declared.expr.Place.{Place}
use Rattle.rule_exprs.specs.Formulas.{Formula, Formulas, none, more, print, prints, print_place, count, size, sizes, marks, all_marks, deepest, AllFine, FinePlace, Many}
use Rattle.rule_exprs.specs.Grammar.{St, Out, bind, token, opened, group, members, single, a_place, form, expression, whole}
use Rattle.rule_exprs.proofs.SpellingTaken.{lexeme, before, Moved, moved_on, moved_so, moved_after}
use Rattle.rule_exprs.proofs.SpellingGiven.{Gives, given, failed, and_then, before_then, weaker, token_given}
use Rattle.rule_exprs.proofs.SpellingTerms.{bracket_given, end_bracket_given, counted_given, term_given}
use Rattle.rule_exprs.proofs.SpellingMembers.{listing, prints_listing, count_listing, sizes_listing, marks_listing, Fits, fits_listing, places_size}
use Rattle.rule_exprs.proofs.SpellingReads.{Worth, Reads, by_keyword, places, a_place_given, Bracketed, members_given}

abbrev pub formulas : ℕ → Worth Formula
formulas d = record { written = print; size = size; marks = marks; Right = Fits d }

opened_given : (p d : ℕ) (s : St) → Gives (λ u z. (1 ≤ d) × Moved s (opens ∷ []) 1 0 z) (opened p d s)
opened_given p d s = and_then (counted_given p false s) (λ u y h. weaker (bracket_given d y) (λ v z k. (k.0, moved_on h k.1)))

-- what stands in the bracket of the keyword at p, and what follows
bracketed : {A B : Type 0} {P : B → St → Type 0} (p d : ℕ) (s : St) (inside : St → Out A) (k : A → St → Out B) → ((y : St) → 1 ≤ d → Moved s (opens ∷ []) 1 0 y → Gives P (bind (inside y) k)) → Gives P (bind (group p d inside s) k)
bracketed p d s inside k more' = and_then (and_then (opened_given p d s) (λ u z h. before_then (inside z) k (more' z h.0 h.1))) (λ a z h. h)

module _ (d : ℕ) (inner : Lexeme → St → Out Formula) (reads : (t : Lexeme) (s : St) → Gives (Reads (formulas d) t s) (inner t s)) where
  first_given : (s : St) → Gives (λ f z. Moved s (print f) (size f) (marks f) z × Fits d f) (bind (token s) inner)
  first_given s = and_then (token_given s) (λ t y back. weaker (reads t y) (λ f z h. (rw (back h.0) h.1, h.2)))

  single_given : (s : St) → Gives (λ f z. Moved s (print f ++ closes ∷ []) (size f) (marks f) z × Fits d f) (single inner s)
  single_given s =
      and_then (first_given s) (λ f y h.
      and_then (end_bracket_given y) (λ u z k. given (moved_so (add-zero (size f)) (add-zero (marks f)) (moved_on h.0 k), h.1)))

  all_given : (s : St) → Gives (λ fs z. Bracketed (formulas d) members_limit 0 s (listing fs) z) (members none more inner members_limit 0 s)
  all_given s = members_given (formulas d) none more inner reads listing refl (λ x b. refl) members_limit 0 s

  several : (fs : Formulas) (s y z : St) → Moved s (opens ∷ []) 1 0 y → Bracketed (formulas d) members_limit 0 y (listing fs) z
      → Moved s (opens ∷ (prints fs ++ closes ∷ [])) (1 + sizes fs) (all_marks fs) z × ((Many (count fs) × AllFine fs) × (1 + deepest fs ≤ suc d))
  several fs s y z h b =
      let fits = fits_listing d fs b.right in
      let n = count_listing fs in
      let m = moved_so refl (zero-add (sum_by marks (listing fs))) (moved_on h b.moved) in
      (rw (prints_listing fs, sizes_listing fs, marks_listing fs) at m, ((omega (arith, b.least, b.most), fits.0), omega arith))

  some_places : (ps : List Place) (s y z : St) → 1 ≤ d → Moved s (opens ∷ []) 1 0 y → Bracketed places members_limit 0 y ps z
      → Moved s (opens ∷ (flat_map print_place ps ++ closes ∷ [])) (1 + length ps) (length ps) z × ((Many (length ps) × AllByRecursion FinePlace ps) × (2 ≤ suc d))
  some_places ps s y z l h b =
      let m = moved_so refl (zero-add (sum_by (λ x. 1) ps)) (moved_on h b.moved) in
      (rw (places_size ps) at m, ((omega (arith, b.least, b.most), b.right), omega arith))

  form_given : (p : ℕ) (k : Keyword) (s : St) → Gives (λ f z. Moved (before (lexeme (name (spelling k)) p) s) (print f) (size f) (marks f) z × Fits (suc d) f) (form d inner p k s)
  form_given p At s = and_then (term_given p true points_limit s) (λ n z h. given (moved_after (lexeme (name (spelling At)) p) refl h.1, (h.0, omega arith)))
  form_given p Use s = and_then (term_given p true numbers_end s) (λ n z h. given (moved_after (lexeme (name (spelling Use)) p) refl h.1, (h.0, omega arith)))
  form_given p From s = and_then (term_given p true points_limit s) (λ n z h. given (moved_after (lexeme (name (spelling From)) p) refl h.1, (h.0, omega arith)))
  form_given p To s = and_then (term_given p false points_limit s) (λ n z h. given (moved_after (lexeme (name (spelling To)) p) refl h.1, (h.0, omega arith)))
  form_given p Not s =
      bracketed p d s _ _ (λ y l h. and_then (single_given y) (λ f z k.
      given (moved_after (lexeme (name (spelling Not)) p) refl (moved_so refl (zero-add (marks f)) (moved_on h k.0)), (k.1.0, omega arith))))
  form_given p And s =
      bracketed p d s _ _ (λ y l h. and_then (all_given y) (λ fs z b.
      let k = several fs s y z h b in given (moved_after (lexeme (name (spelling And)) p) refl k.0, k.1)))
  form_given p Or s =
      bracketed p d s _ _ (λ y l h. and_then (all_given y) (λ fs z b.
      let k = several fs s y z h b in given (moved_after (lexeme (name (spelling Or)) p) refl k.0, k.1)))
  form_given p Seq s =
      bracketed p d s _ _ (λ y l h. and_then (members_given places [] ◌∷◌ a_place a_place_given (λ ps. ps) refl (λ x b. refl) members_limit 0 y) (λ ps z b.
      let k = some_places ps s y z l h b in given (moved_after (lexeme (name (spelling Seq)) p) refl k.0, k.1)))
  form_given p Ban s = failed
  form_given p Need s = failed
  form_given p Then s = failed

expression_given : (d : ℕ) (t : Lexeme) (s : St) → Gives (Reads (formulas d) t s) (expression d t s)
expression_given zero t s = failed
expression_given (suc d) t s = by_keyword (formulas (suc d)) t s (form d (expression d) t.place) (λ k. form_given d (expression d) (expression_given d) t.place k s)

pub whole_given : (s : St) → Gives (λ f z. Moved s (print f) (size f) (marks f) z × Fits depth_limit f) (whole s)
unfolding whole
whole_given s = first_given depth_limit (expression depth_limit) (expression_given depth_limit) s
