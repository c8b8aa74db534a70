-- What a reader has still to read.
use Rattle.std.specs.Prelude.{◌≡◌, ℕ, Bool, true, false, List, Ok, Err, Result}
use Rattle.rule_tokens.specs.declared.token.Token.{Token}
use Rattle.rule_tokens.specs.declared.fault.Fault.{Fault}
use Rattle.rule_tokens.specs.declared.fault.Fault.TheVariants as fault
use Rattle.rule_tokens.specs.declared.reader.Reader.{Reader}
use Rattle.rule_tokens.specs.Lex.{Tok, good, wrong, head, shift, tokens}
use Rattle.rule_tokens.specs.Seen.{word_of, place_of}

abbrev pub ahead : Reader → List Tok
ahead r = tokens 0 r.cursor.place r.cursor.rest.now

-- a digit run at p is read as n where it is good, and refused where it is not
abbrev pub Reads : Result ℕ Fault → Bool → ℕ → ℕ → Type 0
Reads (Ok x) right n p = (right ≡ true) × (x ≡ n)
Reads (Err f) right n p = (right ≡ false) × (f ≡ fault.Token p)

-- a token was taken from the front of ts, and us are left
abbrev pub Takes : Result Token Fault → List Tok → List Tok → Type 0
Takes (Ok t) ts us = (head ts ≡ good (word_of t) (place_of t)) × (us ≡ shift ts)
Takes (Err f) ts us = (p : ℕ) × (f ≡ fault.Token p) × (head ts ≡ wrong p)
