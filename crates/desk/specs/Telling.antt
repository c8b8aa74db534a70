-- What is written of a reply.
use Rattle.std.specs.Prelude.{ℕ, List, codes}
use Rattle.answers.specs.Words.{arcs_words, refusal_words}
use Rattle.desk.specs.declared.Reply.{Reply}
use Rattle.desk.specs.declared.Reply.TheVariants.{Granted, Refused, Arcs}

abbrev pub reply_text : Reply → List ℕ
reply_text Granted = codes "granted"
reply_text (Refused words) = refusal_words words
reply_text (Arcs arcs) = arcs_words arcs.items
