-- What the account says of loads and steps, and of a term that is shown.
use Rattle.std.specs.Prelude.{ℕ, ◌/◌, ◌%◌, List, [], ◌∷◌, ◌++◌, Ok, Err, codes, Result}
use Rattle.terms.specs.Spelled as terms
use Rattle.languages.specs.declared.refusal.Refusal.{Refusal}
use Rattle.languages.specs.declared.answers.Loaded.{Loaded}
use Rattle.languages.specs.declared.answers.Stepped.{Stepped}
use Rattle.languages.specs.Answers.{fault_of, loaded_text, stepped_text}
use Rattle.replay.specs.Account.{call_sentence, refused_text}

abbrev pub refusal_text : Refusal → List ℕ
refusal_text refusal = refused_text (fault_of refusal) (call_sentence (fault_of refusal).cause)

abbrev pub load_text : Result Loaded Refusal → List ℕ
load_text (Ok loaded) = codes "accepted, " ++ loaded_text loaded
load_text (Err refusal) = refusal_text refusal

abbrev pub step_text : Result Stepped Refusal → List ℕ
step_text (Ok stepped) = stepped_text stepped
step_text (Err refusal) = refusal_text refusal

-- a word is written as label:payload
abbrev pub word_text : ℕ → List ℕ
word_text w = terms.word_text (w / 16777216) (w % 16777216)

-- words behind a word, with a space before each
unfoldable pub behind_text : List ℕ → List ℕ
behind_text [] = []
behind_text (w ∷ ws) = codes " " ++ (word_text w ++ behind_text ws)

-- a term is written as its words, with one space between two
unfoldable pub term_text : List ℕ → List ℕ
unfolding behind_text
term_text [] = []
term_text (w ∷ ws) = word_text w ++ behind_text ws
