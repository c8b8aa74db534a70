-- Steps of the grammar in another form, and a fault that is passed up as it is.
use Rattle.std.proofs.Common.{◌≡◌, Result, refl}
use Rattle.std.specs.Result.{IsErrAnd}
use Rattle.std.proofs.lemmas.Result.{err_from_is_err_and}
use Rattle.rule_tokens.specs.declared.fault.Fault.{Fault}
use Rattle.rule_tokens.specs.declared.fault.Fault.TheVariants.{Token, Order, Value, Limit, Memory}
use Rattle.rule_exprs.specs.Grammar.{St, Out, gives, fails, bind}
use Rattle.rule_exprs.specs.Follow.{Fails, Follows}

pub bind_bind : {A B C : Type 0} (o : Out A) (k : A → St → Out B) (l : B → St → Out C) → bind (bind o k) l ≡ bind o (λ a s. bind (k a s) l)
bind_bind (gives a s) k l = refl
bind_bind (fails f) k l = refl

pub bind_same : {A B : Type 0} (o : Out A) {k l : A → St → Out B} → ((a : A) (s : St) → k a s ≡ l a s) → bind o k ≡ bind o l
bind_same (gives a s) e = e a s
bind_same (fails f) e = refl

pub fails_bind : {A B : Type 0} (f : Fault) (o : Out A) (k : A → St → Out B) → Fails f o → Fails f (bind o k)
fails_bind (Token p) o k h = rw h
fails_bind (Order p) o k h = rw h
fails_bind (Value p) o k h = rw h
fails_bind (Limit p) o k h = rw h
fails_bind Memory o k h = tt

pub fails_at : {A : Type 0} (f : Fault) (o q : Out A) → q ≡ o → Fails f o → Fails f q
fails_at f o q e h = rw e h

-- what `?` returns where a call failed with e
pub passed_up : {X A : Type 0} (f : X → A) (r : Result X Fault) (s : St) (o : Out A) (e : Fault) → IsErrAnd r (λ y. y ≡ e) → Fails e o → Follows f r s o
passed_up f r s o e is bad =
    let p = err_from_is_err_and r is in
    rw (p.1, p.2) bad
