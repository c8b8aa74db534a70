-- What a token of the code says, and where it stands.
use Rattle.std.specs.Prelude.{ℕ}
use Rattle.rule_tokens.specs.declared.token.Token.{Token}
use Rattle.rule_tokens.specs.declared.token.Token.TheVariants.{Word, Number, Open, Close, Stop, End}
use Rattle.rule_tokens.specs.Lex as lex
use Rattle.rule_tokens.specs.Lex.{Lexeme, name, numeral, opens, closes, stops, ends}

abbrev pub place_of : Token → ℕ
place_of (Word w p) = p
place_of (Number n p) = p
place_of (Open p) = p
place_of (Close p) = p
place_of (Stop p) = p
place_of (End p) = p

abbrev pub word_of : Token → lex.Word
word_of (Word w p) = name w.now
word_of (Number n p) = numeral n
word_of (Open p) = opens
word_of (Close p) = closes
word_of (Stop p) = stops
word_of (End p) = ends

abbrev pub seen : Token → Lexeme
seen t = record { word = word_of t; place = place_of t }
