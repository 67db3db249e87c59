-- A text by its first colon, or without one.
use Rattle.std.proofs.Common.{◌≡◌, ℕ, Some, None, Option, Result, sym, ◌∙◌, subst, lit<}
use Rattle.std.specs.Option.{MatchOption, ok_or}
use Rattle.std.specs.Result.{MatchResult}
use Rattle.std.proofs.lemmas.Str.Pattern.{split_parts}
use Rattle.terms.specs.declared.word.Word.{Word}
use Rattle.terms.specs.declared.word.NoWord.{NoWord}
use Rattle.terms.specs.Words.{word}
use Rattle.terms.proofs.Colons.{no_word, word_parts}
use Rattle.terms.proofs.word.WordFromStr.from_str.Goals as goal

-- what a result says of the word that is spelled
abbrev Told : Option ℕ → Result Word NoWord → Type 0
Told spelled r = MatchResult r (λ w. spelled ≡ Some (word w.label w.payload)) (λ e. spelled ≡ None)

told : (spelled v : Option ℕ) (o : Option Word) (e : NoWord) → spelled ≡ v → MatchOption o (v ≡ None) (λ w. v ≡ Some (word w.label w.payload)) → Told spelled (ok_or o e)
told spelled v None e is none = is ∙ none
told spelled v (Some w) e is some = is ∙ some

pub returns-in_default : goal.returns-in_default
returns-in_default c = no_word _ (split_parts 58 _ None c.in_default.ensures.cases (lit< tt))

pub returns : goal.returns
returns c =
    let parts = word_parts _ _ _ (split_parts 58 _ (Some (c.in-Some.label, c.in-Some.payload)) c.in-Some.ensures.cases (lit< tt)) in
    subst (Told _) (sym c.ok_or.ensures.value) (told _ _ _ _ parts c.word_by.ensures)
