-- The words of the rule language.
use Rattle.std.specs.Prelude.{ℕ, cond, List, Some, None, codes, Option}
use Rattle.std.specs.Str.{bytes_eq}
use Rattle.rule_exprs.specs.declared.keyword.Keyword.{Keyword}
use Rattle.rule_exprs.specs.declared.keyword.Keyword.TheVariants.{Ban, Need, Then, At, Use, From, To, Not, And, Or, Seq}

abbrev pub spelling : Keyword → List ℕ
spelling Ban = codes "ban"
spelling Need = codes "need"
spelling Then = codes "then"
spelling At = codes "at"
spelling Use = codes "use"
spelling From = codes "from"
spelling To = codes "to"
spelling Not = codes "not"
spelling And = codes "and"
spelling Or = codes "or"
spelling Seq = codes "seq"

-- the keyword of these letters, if there is one
abbrev pub meant : List ℕ → Option Keyword
meant w =
    cond (bytes_eq w (spelling Ban)) (Some Ban)
    (cond (bytes_eq w (spelling Need)) (Some Need)
    (cond (bytes_eq w (spelling Then)) (Some Then)
    (cond (bytes_eq w (spelling At)) (Some At)
    (cond (bytes_eq w (spelling Use)) (Some Use)
    (cond (bytes_eq w (spelling From)) (Some From)
    (cond (bytes_eq w (spelling To)) (Some To)
    (cond (bytes_eq w (spelling Not)) (Some Not)
    (cond (bytes_eq w (spelling And)) (Some And)
    (cond (bytes_eq w (spelling Or)) (Some Or)
    (cond (bytes_eq w (spelling Seq)) (Some Seq) None))))))))))
