-- What is known of whatever a reader gives, step by step.
use Rattle.std.proofs.Common.{◌≡◌, ℕ, Bool, true, false, cond, List, [], ◌∷◌, Some, None, Option, refl}
use Rattle.rule_tokens.specs.Lex.{is_end, Tok, good, wrong}
use Rattle.rule_tokens.specs.declared.fault.Fault.{Fault}
use Rattle.rule_exprs.specs.Grammar.{St, Out, gives, fails, bind, token, wanted}
use Rattle.rule_exprs.proofs.SpellingTaken.{at, before}

-- P holds of what is given, if anything is
pub data Gives {A : Type 0} (P : A → St → Type 0) : Out A → Type 0 where
  given : {a : A} {s : St} → P a s → Gives P (gives a s)
  failed : {f : Fault} → Gives P (fails f)

pub got : {A : Type 0} {P : A → St → Type 0} {a : A} {s : St} → Gives P (gives a s) → P a s
got (given h) = h

pub and_then : {A B : Type 0} {P : A → St → Type 0} {Q : B → St → Type 0} {o : Out A} {k : A → St → Out B} → Gives P o → ((a : A) (s : St) → P a s → Gives Q (k a s)) → Gives Q (bind o k)
and_then (given {a = a} {s = s} h) more = more a s h
and_then failed more = failed

pub before_then : {A B : Type 0} {P : B → St → Type 0} (o : Out A) (k : A → St → Out B) → Gives P (bind o k) → Gives (λ a s. Gives P (k a s)) o
before_then (gives a s) k h = given h
before_then (fails f) k h = failed

pub choice : {A : Type 0} {P : A → St → Type 0} {x y : Out A} (b : Bool) → (b ≡ true → Gives P x) → (b ≡ false → Gives P y) → Gives P (cond b x y)
choice true on off = on refl
choice false on off = off refl

pub on_wanted : {A B : Type 0} {P : B → St → Type 0} (p : ℕ) (o : Option A) (k : A → St → Out B) (s : St) → ((a : A) → o ≡ Some a → Gives P (k a s)) → Gives P (wanted p o k s)
on_wanted p (Some a) k s more = more a refl
on_wanted p None k s more = failed

taken : (ts : List Tok) (e m : ℕ) → Gives (λ t z. is_end t.word ≡ false → at ts e m ≡ before t z) (token (at ts e m))
taken [] e m = given (λ h. cc)
taken (good w p ∷ ts) e m = given (λ h. rw h)
taken (wrong p ∷ ts) e m = failed

-- a token that is not the end stood in front
pub token_given : (s : St) → Gives (λ t z. is_end t.word ≡ false → s ≡ before t z) (token s)
token_given s = taken s.toks s.expressions s.terms

pub weaker : {A : Type 0} {P Q : A → St → Type 0} {o : Out A} → Gives P o → ((a : A) (s : St) → P a s → Q a s) → Gives Q o
weaker (given {a = a} {s = s} h) so = given (so a s h)
weaker failed so = failed

pub both_given : {A : Type 0} {P Q : A → St → Type 0} {o : Out A} → Gives P o → Gives Q o → Gives (λ a s. P a s × Q a s) o
both_given (given h) k = given (h, got k)
both_given failed k = failed
