-- What a call does to the marks of a layer, and what is answered.
use Rattle.std.specs.Prelude.{◌≡◌, ℕ, ◌<◌, ◌≤◌, Bool, true, false, ◌⊎◌, List, ◌++◌, Ok, Err, codes, Result, slice_set}
use Rattle.answers.specs.Words.{arcs_words, refusal_figures}
use Rattle.script.specs.declared.calls.Call.{Call}
use Rattle.script.specs.declared.calls.Call.TheVariants.{Shut, Reopen, Arcs}
use Rattle.streets.specs.declared.refusal.Refusal.{Refusal}
use Rattle.streets.specs.declared.refusal.Refusal.TheVariants.{ArcOutside}
use Rattle.streets.specs.Closing.{without}
use Rattle.streets.specs.Limits.{numbers_end}
use Rattle.streets.specs.Network.{View, network}

-- a refusal by its figures and then the reason
abbrev pub Refused : Refusal → List ℕ → Type 0
Refused e words = (why : List ℕ) × (words ≡ refusal_figures e ++ why)

abbrev pub Granted : Result (Unit {0}) Refusal → List ℕ → Type 0
Granted (Ok u) words = words ≡ codes "granted"
Granted (Err e) words = Refused e words

-- a mark is set or taken away, or the number is refused and nothing changes
abbrev pub Marked : Bool → ℕ → List Bool → List Bool → List ℕ → Type 0
Marked mark arc before after words = ((arc < numbers_end) × (after ≡ slice_set before arc mark) × (words ≡ codes "granted")) ⊎ ((numbers_end ≤ arc) × (after ≡ before) × Refused ArcOutside words)

abbrev pub Answered : View → List Bool → List Bool → Call → List ℕ → Type 0
Answered below before after (Shut arc) words = Marked true arc before after words
Answered below before after (Reopen arc) words = Marked false arc before after words
Answered below before after (Arcs point) words = (after ≡ before) × (words ≡ arcs_words ((without before (network below)).arcs point))

-- for want of memory no closure is left unanswered, and where the arcs of a point are, nothing changes
abbrev pub Unanswered : List Bool → List Bool → Call → Type 0
Unanswered before after (Shut arc) = ⊥
Unanswered before after (Reopen arc) = ⊥
Unanswered before after (Arcs point) = after ≡ before
