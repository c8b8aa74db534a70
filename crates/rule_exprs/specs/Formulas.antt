-- Expressions without their boxes: how they are written, counted and bounded.
use Rattle.std.specs.Prelude.{ℕ, ◌+◌, ◌<◌, ◌≤◌, max, List, [], ◌∷◌, ◌++◌, map, length}
use Rattle.std.specs.List.{flat_map, AllByRecursion}
use Rattle.streets.specs.Limits.{points_limit, numbers_end}
use Rattle.rule_tokens.specs.Lex.{Word, name, numeral, opens, closes}
use Rattle.rule_exprs.specs.Limits.{members_least, members_limit}
use Rattle.rule_exprs.specs.Keywords.{spelling}
use Rattle.rule_exprs.specs.declared.keyword.Keyword.TheVariants as keyword
use Rattle.rule_exprs.specs.declared.expr.Place.{Place}
use Rattle.rule_exprs.specs.declared.expr.Place.TheVariants as place
use Rattle.rule_exprs.specs.declared.expr.Expr.{Expr}
use Rattle.rule_exprs.specs.declared.expr.Expr.TheOpen.{Expr-F}
use Rattle.rule_exprs.specs.declared.expr.Expr.TheFolds.{fold-Expr}

mutual
  pub data Formula : Type 0 where
    at_point : ℕ → Formula
    use_arc : ℕ → Formula
    from_point : ℕ → Formula
    to_point : ℕ → Formula
    negation : Formula → Formula
    conjunction : Formulas → Formula
    disjunction : Formulas → Formula
    sequence : List Place → Formula

  pub data Formulas : Type 0 where
    none : Formulas
    more : Formula → Formulas → Formulas

abbrev pub gathered : List Formula → Formulas
gathered [] = none
gathered (f ∷ fs) = more f (gathered fs)

abbrev pub placed : Place → Formula
placed (place.At n) = at_point n
placed (place.Use n) = use_arc n

-- one expression, with the formula of each inner one in its place
abbrev pub layer : Expr-F Formula → Formula
layer (Expr-F.Place x) = placed x
layer (Expr-F.From n) = from_point n
layer (Expr-F.To n) = to_point n
layer (Expr-F.Not e) = negation e.value
layer (Expr-F.And es) = conjunction (gathered es.items)
layer (Expr-F.Or es) = disjunction (gathered es.items)
layer (Expr-F.Seq ps) = sequence ps.items

-- the formula of a tree
abbrev pub shape : Expr → Formula
shape = fold-Expr Formula layer

abbrev pub shapes : List Expr → Formulas
shapes es = gathered (map shape es)

-- The words of a formula, without places in a text.
abbrev pub print_place : Place → List Word
print_place (place.At n) = name (spelling keyword.At) ∷ (numeral n ∷ [])
print_place (place.Use n) = name (spelling keyword.Use) ∷ (numeral n ∷ [])

abbrev mutual
  pub print : Formula → List Word
  print (at_point n) = name (spelling keyword.At) ∷ (numeral n ∷ [])
  print (use_arc n) = name (spelling keyword.Use) ∷ (numeral n ∷ [])
  print (from_point n) = name (spelling keyword.From) ∷ (numeral n ∷ [])
  print (to_point n) = name (spelling keyword.To) ∷ (numeral n ∷ [])
  print (negation f) = name (spelling keyword.Not) ∷ (opens ∷ (print f ++ closes ∷ []))
  print (conjunction fs) = name (spelling keyword.And) ∷ (opens ∷ (prints fs ++ closes ∷ []))
  print (disjunction fs) = name (spelling keyword.Or) ∷ (opens ∷ (prints fs ++ closes ∷ []))
  print (sequence ps) = name (spelling keyword.Seq) ∷ (opens ∷ (flat_map print_place ps ++ closes ∷ []))

  pub prints : Formulas → List Word
  prints none = []
  prints (more f fs) = print f ++ prints fs

-- how many members there are
abbrev pub count : Formulas → ℕ
count none = 0
count (more f fs) = 1 + count fs

-- how many expressions: the formula itself, those inside it, the places of a sequence
abbrev mutual
  pub size : Formula → ℕ
  size (at_point n) = 1
  size (use_arc n) = 1
  size (from_point n) = 1
  size (to_point n) = 1
  size (negation f) = 1 + size f
  size (conjunction fs) = 1 + sizes fs
  size (disjunction fs) = 1 + sizes fs
  size (sequence ps) = 1 + length ps

  pub sizes : Formulas → ℕ
  sizes none = 0
  sizes (more f fs) = size f + sizes fs

-- how many marked terms: `at`, `use`, `from`, and the places of a sequence
abbrev mutual
  pub marks : Formula → ℕ
  marks (at_point n) = 1
  marks (use_arc n) = 1
  marks (from_point n) = 1
  marks (to_point n) = 0
  marks (negation f) = marks f
  marks (conjunction fs) = all_marks fs
  marks (disjunction fs) = all_marks fs
  marks (sequence ps) = length ps

  pub all_marks : Formulas → ℕ
  all_marks none = 0
  all_marks (more f fs) = marks f + all_marks fs

-- how deep it is: 1 without brackets, and 1 more for each bracket
abbrev mutual
  pub depth : Formula → ℕ
  depth (at_point n) = 1
  depth (use_arc n) = 1
  depth (from_point n) = 1
  depth (to_point n) = 1
  depth (negation f) = 1 + depth f
  depth (conjunction fs) = 1 + deepest fs
  depth (disjunction fs) = 1 + deepest fs
  depth (sequence ps) = 2

  pub deepest : Formulas → ℕ
  deepest none = 0
  deepest (more f fs) = max (depth f) (deepest fs)

-- points and arcs are in range
abbrev pub FinePlace : Place → Type 0
FinePlace (place.At n) = n < points_limit
FinePlace (place.Use n) = n < numbers_end

-- as many members as a bracket may have
abbrev pub Many : ℕ → Type 0
Many n = (members_least ≤ n) × (n ≤ members_limit)

abbrev mutual
  pub Fine : Formula → Type 0
  Fine (at_point n) = n < points_limit
  Fine (use_arc n) = n < numbers_end
  Fine (from_point n) = n < points_limit
  Fine (to_point n) = n < points_limit
  Fine (negation f) = Fine f
  Fine (conjunction fs) = Many (count fs) × AllFine fs
  Fine (disjunction fs) = Many (count fs) × AllFine fs
  Fine (sequence ps) = Many (length ps) × AllByRecursion FinePlace ps

  pub AllFine : Formulas → Type 0
  AllFine none = Unit {0}
  AllFine (more f fs) = Fine f × AllFine fs
