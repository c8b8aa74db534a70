-- The members of a bracket that are spelled are given.
use Rattle.std.proofs.Common.{◌≡◌, ℕ, zero, suc, ◌+◌, ◌≤◌, List, [], ◌∷◌, ◌++◌, length, sum_by, refl, ◌∙◌, add-zero, arith}
use Rattle.std.specs.List.{flat_map, AllByRecursion}
use Rattle.std.proofs.lemmas.List.{append_assoc}
use Rattle.std.proofs.lemmas.List.Sums.{sum_by-cons}
use Rattle.std.proofs.lemmas.Bool.{le-ltb}
use Rattle.rule_tokens.specs.Lex.{Word, name, closes, Lexeme, Tok, good}
use Rattle.rule_exprs.specs.Limits.{expressions_limit, terms_limit, members_least}
use Rattle.rule_exprs.specs.Grammar.{St, Out, gives, bind, token, closed_or, members}
use Rattle.rule_exprs.proofs.SpellingTaken.{Took, took_split, at}
use Rattle.rule_exprs.proofs.SpellingReads.{Worth}
use Rattle.rule_exprs.proofs.SpellingSteps.{bound, same_given, first_took, Takes}

-- the first word is a name
abbrev pub Named : List Word → Type 0
Named ws = (u : List ℕ) × (vs : List Word) × (ws ≡ name u ∷ vs)

pub first_name : (ws : List Word) (ts us : List Tok) → Named ws → Took ws ts us → (u : List ℕ) × (p : ℕ) × (vs : List Tok) × (ts ≡ good (name u) p ∷ vs)
first_name ws ts us n h =
    let k : Took (name n.0 ∷ n.1) ts us = rw n.2 at h in
    let f = first_took (name n.0) n.1 ts us k in
    (n.0, f.0, f.1, f.2)

closed_taken : {B : Type 0} (nil : B) (on : Lexeme → St → Out B) (n : ℕ) (ts us : List Tok) (e m : ℕ) → Took (closes ∷ []) ts us → members_least ≤ n → bind (token (at ts e m)) (closed_or nil n on) ≡ gives nil (at us e m)
closed_taken nil on n ts us e m h l =
    let f = first_took closes [] ts us h in
    rw (f.2, le-ltb n members_least l, f.3)

module _ {X B : Type 0} (v : Worth X) (nil : B) (cons : X → B → B) (member : Lexeme → St → Out X) (named : (x : X) → Named (v.written x))
    (made : List X → B) (made_nil : made [] ≡ nil) (made_cons : (x : X) (xs : List X) → made (x ∷ xs) ≡ cons x (made xs)) where
  none_left : (b : B) (us : List Tok) (e m : ℕ) → b ≡ nil → gives nil (at us e m) ≡ gives b (at us (e + 0) (m + 0))
  none_left b us e m q = rw (q, add-zero e, add-zero m)

  one_taken : (x : X) (xs : List X) (k n : ℕ) (ts ms : List Tok) (e m : ℕ) (z : St) → Took (v.written x) ts ms → Takes v member x → e + v.size x ≤ expressions_limit → m + v.marks x ≤ terms_limit
      → members nil cons member k (n + 1) (at ms (e + v.size x) (m + v.marks x)) ≡ gives (made xs) z
      → members nil cons member (suc k) n (at ts e m) ≡ gives (made (x ∷ xs)) z
  unfolding members
  one_taken x xs k n ts ms e m z h takes i j rest =
      let f = first_name (v.written x) ts ms (named x) h in
      let g : Took (v.written x) (good (name f.0) f.1 ∷ f.2) ms = rw f.3 at h in
      rw (f.3, made_cons) (bound _ (takes (name f.0) f.1 f.2 ms e m g i j) (bound _ rest refl))

  pub members_taken : (xs : List X) (k n : ℕ) (ts us : List Tok) (e m : ℕ) → Took (flat_map v.written xs ++ closes ∷ []) ts us → members_least ≤ n + length xs → length xs ≤ k → AllByRecursion (Takes v member) xs
      → e + sum_by v.size xs ≤ expressions_limit → m + sum_by v.marks xs ≤ terms_limit
      → members nil cons member k n (at ts e m) ≡ gives (made xs) (at us (e + sum_by v.size xs) (m + sum_by v.marks xs))
  unfolding members
  members_taken [] zero n ts us e m h least most takes i j = closed_taken nil _ n ts us e m h (omega arith) ∙ none_left (made []) us e m made_nil
  members_taken [] (suc k) n ts us e m h least most takes i j = closed_taken nil _ n ts us e m h (omega arith) ∙ none_left (made []) us e m made_nil
  members_taken (x ∷ xs) zero n ts us e m h least most takes i j = absurd (omega arith)
  members_taken (x ∷ xs) (suc k) n ts us e m h least most takes i j =
      let a = sum_by-cons v.size x xs in
      let b = sum_by-cons v.marks x xs in
      let parts = took_split (v.written x) (flat_map v.written xs ++ closes ∷ []) ts us (rw append_assoc at h) in
      let rest = members_taken xs k (n + 1) parts.0 us (e + v.size x) (m + v.marks x) parts.2 (omega arith) (omega arith) takes.1 (omega arith) (omega arith) in
      one_taken x xs k n ts parts.0 e m _ parts.1 takes.0 (omega arith) (omega arith) (rest ∙ same_given (omega arith) (omega arith))
