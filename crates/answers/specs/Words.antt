-- What is written of arcs and refusals.
use Rattle.std.specs.Prelude.{ℕ, List, [], ◌∷◌, ◌++◌, Some, None, codes, decimal, Option}
use Rattle.std.specs.List.{flat_map}
use Rattle.answers.specs.declared.RefusalWords.{RefusalWords}
use Rattle.streets.specs.declared.arc.Arc.{Arc}
use Rattle.streets.specs.declared.refusal.Refusal.{Refusal}
use Rattle.streets.specs.Refusals.{number_of, place_of}

-- number, head and weight, as `1 to 2 30s climb 80 toll 0`
abbrev pub arc_words : Arc → List ℕ
arc_words a = decimal a.number ++ (codes " to " ++ (decimal a.head ++ (codes " " ++ (decimal a.weight.seconds ++ (codes "s climb " ++ (decimal a.weight.climb ++ (codes " toll " ++ decimal a.weight.toll)))))))

abbrev pub next_words : Arc → List ℕ
next_words a = codes "; " ++ arc_words a

-- the arcs in their order
abbrev pub arcs_words : List Arc → List ℕ
arcs_words [] = codes "none"
arcs_words (a ∷ rest) = arc_words a ++ flat_map next_words rest

abbrev pub place_words : Option ℕ → List ℕ
place_words None = codes ": "
place_words (Some at) = codes " at " ++ (decimal at ++ codes ": ")

-- the number, and the place if there is one
abbrev pub refusal_figures : Refusal → List ℕ
refusal_figures r = codes "refused " ++ (decimal (number_of r) ++ place_words (place_of r))

-- and then the reason that is told with it
abbrev pub refusal_words : RefusalWords → List ℕ
refusal_words w = refusal_figures w.refusal ++ w.reason.now
