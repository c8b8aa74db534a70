-- The members of a bracket, one after another.
use Rattle.std.proofs.Common.{◌≡◌, ℕ, suc, ◌+◌, ◌-◌, ◌<◌, ◌≤◌, Bool, true, false, cond, ltb, List, [], ◌∷◌, ◌++◌, Some, None, Option, sym, refl, ap, ◌∙◌, ⊎_elim, arith}
use Rattle.std.proofs.str.Laws.{order}
use Rattle.std.proofs.lemmas.Bool.{lt-ltb, le-ltb}
use Rattle.rule_tokens.specs.Lex.{Lexeme}
use Rattle.rule_tokens.specs.declared.fault.Fault.{Fault}
use Rattle.rule_tokens.specs.declared.fault.Fault.TheVariants.{Order}
use Rattle.rule_exprs.specs.Formulas.{Formula, none, more, gathered}
use Rattle.rule_exprs.specs.Limits.{members_least, members_limit}
use Rattle.rule_exprs.specs.Grammar.{St, Out, gives, fails, bind, ◌>>=◌, token, is_close, closed_or, members}
use Rattle.rule_exprs.specs.Follow.{Fails, next_member}
use Rattle.rule_exprs.proofs.Fails.{fails_at, fails_bind, bind_bind, bind_same}

-- the members xs, and then those of b
abbrev pub begun : {X B : Type 0} → (X → B → B) → List X → B → B
begun cons [] b = b
begun cons (x ∷ xs) b = cons x (begun cons xs b)

begun_push : {X B : Type 0} (cons : X → B → B) (xs : List X) (x : X) (b : B) → begun cons (xs ++ x ∷ []) b ≡ begun cons xs (cons x b)
begun_push cons [] x b = refl
begun_push cons (y ∷ xs) x b = ap (cons y) (begun_push cons xs x b)

pub begun_list : {X : Type 0} (xs : List X) → begun ◌∷◌ xs [] ≡ xs
begun_list [] = refl
begun_list (x ∷ xs) = ap (λ ys. x ∷ ys) (begun_list xs)

pub begun_gathered : (fs : List Formula) → begun more fs none ≡ gathered fs
begun_gathered [] = refl
begun_gathered (f ∷ fs) = ap (more f) (begun_gathered fs)

module _ {X B : Type 0} (nil : B) (cons : X → B → B) (member : Lexeme → St → Out X) where
  -- what is given in all begins with the n members xs, and s is left
  pub record Read (all : Out B) (xs : List X) (n : ℕ) (s : St) : Type 0 where
    pub few : n ≤ members_limit
    pub so : all ≡ bind (members nil cons member (members_limit - n) n s) (λ b. gives (begun cons xs b))

  module _ (all : Out B) (xs : List X) (n : ℕ) (s : St) (read : Read all xs n s) where
    -- the bracket closes, or one member more begins and the rest follow
    abbrev by_member : Option Lexeme → St → Out B
    by_member None = gives nil
    by_member (Some t) = member t >>= λ x. members nil cons member (members_limit - (n + 1)) (n + 1) >>= λ b. gives (cons x b)

    apart : (c few : Bool) (t : Lexeme) (s1 : St) (o : Out B) (q : Out (Option Lexeme)) → o ≡ bind q by_member → cond c (cond few (fails (Order t.place)) (gives nil s1)) o ≡ bind (cond c (cond few (fails (Order t.place)) (gives None s1)) q) by_member
    apart true true t s1 o q e = refl
    apart true false t s1 o q e = refl
    apart false few t s1 o q e = e

    turn : (on : Lexeme → St → Out B) → ((t : Lexeme) (s1 : St) → on t s1 ≡ bind (cond (ltb n members_limit) (gives (Some t) s1) (fails (Order t.place))) by_member) → (o : Out Lexeme) → bind o (closed_or nil n on) ≡ bind (bind o (λ t s1. cond (is_close t.word) (cond (ltb n members_least) (fails (Order t.place)) (gives None s1)) (cond (ltb n members_limit) (gives (Some t) s1) (fails (Order t.place))))) by_member
    turn on e (gives t s1) = apart (is_close t.word) (ltb n members_least) t s1 _ _ (e t s1)
    turn on e (fails f) = refl

    next : n < members_limit → members nil cons member (members_limit - n) n s ≡ bind (next_member n s) by_member
    unfolding members
    next h =
        let k : members_limit - n ≡ suc (members_limit - (n + 1)) = omega arith in
        ap (λ m. members nil cons member m n s) k ∙ turn (λ t. by_member (Some t)) (λ t s1. ap (λ b. bind (cond b (gives (Some t) s1) (fails (Order t.place))) by_member) (sym (lt-ltb n members_limit h))) (token s)

    last : n ≡ members_limit → members nil cons member (members_limit - n) n s ≡ bind (next_member n s) by_member
    unfolding members
    last h =
        let k : members_limit - n ≡ 0 = omega arith in
        ap (λ m. members nil cons member m n s) k ∙ turn (λ t _. fails (Order t.place)) (λ t s1. ap (λ b. bind (cond b (gives (Some t) s1) (fails (Order t.place))) by_member) (sym (le-ltb n members_limit (omega arith)))) (token s)

    begins : all ≡ bind (next_member n s) (λ o. by_member o >>= λ b. gives (begun cons xs b))
    begins =
        let l = read.few in
        read.so ∙ ap (λ o. bind o (λ b. gives (begun cons xs b))) (⊎_elim next (λ ge. last (omega arith)) (order n members_limit)) ∙ bind_bind (next_member n s) by_member _

    pub next_fails : (f : Fault) → Fails f (next_member n s) → Fails f all
    next_fails f bad = fails_at f _ _ begins (fails_bind f _ _ bad)

    pub none_left : (s1 : St) → next_member n s ≡ gives None s1 → all ≡ gives (begun cons xs nil) s1
    none_left s1 is = begins ∙ ap (λ o. bind o (λ o. by_member o >>= λ b. gives (begun cons xs b))) is

    module _ (t : Lexeme) (s1 : St) (is : next_member n s ≡ gives (Some t) s1) where
      one : all ≡ bind (member t s1) (λ x. members nil cons member (members_limit - (n + 1)) (n + 1) >>= λ b. gives (begun cons xs (cons x b)))
      one =
          begins
          ∙ ap (λ o. bind o (λ o. by_member o >>= λ b. gives (begun cons xs b))) is
          ∙ bind_bind (member t s1) _ _
          ∙ bind_same (member t s1) (λ x s2. bind_bind (members nil cons member (members_limit - (n + 1)) (n + 1) s2) _ _)

      pub member_fails : (f : Fault) → Fails f (member t s1) → Fails f all
      member_fails f bad = fails_at f _ _ one (fails_bind f _ _ bad)

      pub one_more : (x : X) (s2 : St) → n < members_limit → member t s1 ≡ gives x s2 → Read all (xs ++ x ∷ []) (n + 1) s2
      one_more x s2 l did = record {
        few = omega arith;
        so =
            one
            ∙ ap (λ o. bind o (λ x. members nil cons member (members_limit - (n + 1)) (n + 1) >>= λ b. gives (begun cons xs (cons x b)))) did
            ∙ bind_same (members nil cons member (members_limit - (n + 1)) (n + 1) s2) (λ b s3. ap (λ a. gives a s3) (sym (begun_push cons xs x b)));
      }
