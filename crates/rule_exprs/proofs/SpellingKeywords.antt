-- A keyword's letters are its own: they read back as it, and no other letters do.
use Rattle.std.proofs.Common.{◌≡◌, ℕ, Bool, true, false, cond, List, Some, Decides, Option, refl, ap, ◌∙◌}
use Rattle.std.specs.Str.{bytes_eq}
use Rattle.std.proofs.lemmas.Slice.Eq.{bytes_eq-Decides}
use Rattle.rule_tokens.specs.Lex.{Word, name, numeral, opens, closes, stops, ends}
use Rattle.rule_exprs.specs.Keywords.{spelling, meant}
use Rattle.rule_exprs.specs.Grammar.{keyword_of, number_of}
use Rattle.rule_exprs.specs.declared.keyword.Keyword.{Keyword}
use Rattle.rule_exprs.specs.declared.keyword.Keyword.TheVariants.{Ban, Need, Then, At, Use, From, To, Not, And, Or, Seq}

module _ (w : List ℕ) (k : Keyword) where
  tried : (b : Bool) (j : Keyword) (rest : Option Keyword) → Decides b (w ≡ spelling j) → (rest ≡ Some k → w ≡ spelling k) → cond b (Some j) rest ≡ Some k → w ≡ spelling k
  tried true j rest d more e = let same : j ≡ k = cc in d.0 refl ∙ ap spelling same
  tried false j rest d more e = more e

  or : (j : Keyword) {rest : Option Keyword} → (rest ≡ Some k → w ≡ spelling k) → cond (bytes_eq w (spelling j)) (Some j) rest ≡ Some k → w ≡ spelling k
  or j {rest} more e = tried (bytes_eq w (spelling j)) j rest (bytes_eq-Decides w (spelling j)) more e

  spelled : meant w ≡ Some k → w ≡ spelling k
  spelled = or Ban (or Need (or Then (or At (or Use (or From (or To (or Not (or And (or Or (or Seq (λ e. cc)))))))))))

pub keyword_word : (w : Word) (k : Keyword) → keyword_of w ≡ Some k → w ≡ name (spelling k)
keyword_word (name v) k e = ap name (spelled v k e)
keyword_word (numeral n) k e = cc
keyword_word opens k e = cc
keyword_word closes k e = cc
keyword_word stops k e = cc
keyword_word ends k e = cc

pub number_word : (w : Word) (n : ℕ) → number_of w ≡ Some n → w ≡ numeral n
number_word (name v) n e = cc
number_word (numeral m) n e = let same : m ≡ n = cc in ap numeral same
number_word opens n e = cc
number_word closes n e = cc
number_word stops n e = cc
number_word ends n e = cc
