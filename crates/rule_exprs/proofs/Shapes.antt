-- The formula of an expression with several members.
use Rattle.std.proofs.Common.{◌≡◌, List, Vec, Global, sym, ap, ◌∙◌}
use Rattle.rule_exprs.specs.declared.expr.Place.{Place}
use Rattle.rule_exprs.specs.declared.expr.Expr.{Expr}
use Rattle.rule_exprs.specs.declared.expr.Expr.TheOpen.{Expr-F}
use Rattle.rule_exprs.specs.declared.expr.Expr.TheFolds.{fold-roll-Expr}
use Rattle.rule_exprs.specs.declared.expr.Expr.TheVariants.{And, Or, Seq, rolls-And, rolls-Or, rolls-Seq}
use Rattle.rule_exprs.specs.Formulas.{Formula, conjunction, disjunction, sequence, layer, shape, shapes}

pub shape_and : (e : Expr) (v : Vec Expr Global) (es : List Expr) → e ≡ And v → es ≡ v.items → conjunction (shapes es) ≡ shape e
shape_and e v es is at = ap (λ l. conjunction (shapes l)) at ∙ sym (ap shape (is ∙ sym (rolls-And v)) ∙ fold-roll-Expr Formula layer (Expr-F.And v))

pub shape_or : (e : Expr) (v : Vec Expr Global) (es : List Expr) → e ≡ Or v → es ≡ v.items → disjunction (shapes es) ≡ shape e
shape_or e v es is at = ap (λ l. disjunction (shapes l)) at ∙ sym (ap shape (is ∙ sym (rolls-Or v)) ∙ fold-roll-Expr Formula layer (Expr-F.Or v))

pub shape_seq : (e : Expr) (v : Vec Place Global) (ps : List Place) → e ≡ Seq v → ps ≡ v.items → sequence ps ≡ shape e
shape_seq e v ps is at = ap sequence at ∙ sym (ap shape (is ∙ sym (rolls-Seq v)) ∙ fold-roll-Expr Formula layer (Expr-F.Seq v))
