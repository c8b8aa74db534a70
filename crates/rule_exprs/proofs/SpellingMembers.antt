-- The members of a formula as a list.
use Rattle.std.proofs.Common.{◌≡◌, ℕ, suc, ◌+◌, ◌≤◌, List, [], ◌∷◌, ◌++◌, length, sum_by, sym, refl, ap, ◌∙◌, one-add, arith}
use Rattle.std.specs.List.{flat_map, AllByRecursion}
use Rattle.std.proofs.lemmas.List.Sums.{sum_by-cons}
use Rattle.rule_exprs.specs.Formulas.{Formula, Formulas, none, more, gathered, print, prints, count, size, sizes, marks, all_marks, depth, deepest, Fine, AllFine}

abbrev pub listing : Formulas → List Formula
listing none = []
listing (more f fs) = f ∷ listing fs

pub gathered_listing : (fs : Formulas) → gathered (listing fs) ≡ fs
gathered_listing none = refl
gathered_listing (more f fs) = ap (more f) (gathered_listing fs)

pub prints_listing : (fs : Formulas) → flat_map print (listing fs) ≡ prints fs
prints_listing none = refl
prints_listing (more f fs) = ap (λ ws. print f ++ ws) (prints_listing fs)

pub count_listing : (fs : Formulas) → length (listing fs) ≡ count fs
count_listing none = refl
count_listing (more f fs) = ap suc (count_listing fs) ∙ sym (one-add (count fs))

pub sizes_listing : (fs : Formulas) → sum_by size (listing fs) ≡ sizes fs
sizes_listing none = refl
sizes_listing (more f fs) = sum_by-cons size f (listing fs) ∙ ap (λ n. size f + n) (sizes_listing fs)

pub marks_listing : (fs : Formulas) → sum_by marks (listing fs) ≡ all_marks fs
marks_listing none = refl
marks_listing (more f fs) = sum_by-cons marks f (listing fs) ∙ ap (λ n. marks f + n) (marks_listing fs)

-- within the ranges, and of depth at most d
abbrev pub Fits : ℕ → Formula → Type 0
Fits d f = Fine f × (depth f ≤ d)

pub fits_listing : (d : ℕ) (fs : Formulas) → AllByRecursion (Fits d) (listing fs) → AllFine fs × (deepest fs ≤ d)
fits_listing d none h = (tt, omega arith)
fits_listing d (more f fs) h =
    let rest = fits_listing d fs h.1 in
    ((h.0.0, rest.0), omega arith)

pub places_size : {X : Type 0} (xs : List X) → sum_by (λ x. 1) xs ≡ length xs
places_size [] = refl
places_size (x ∷ xs) = sum_by-cons (λ y. 1) x xs ∙ ap (λ n. 1 + n) (places_size xs) ∙ one-add (length xs)
