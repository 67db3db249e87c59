-- Words written as label:payload.
use Rattle.std.specs.Prelude.{ℕ, true, false, List, [], ◌∷◌, ◌++◌, codes, decimal, Some, None, Option, ◌==◌}
use Rattle.texts.specs.Numbers.{digits_of, number_of}
use Rattle.terms.specs.Words.{word}

-- how a word is written
abbrev pub word_text : ℕ → ℕ → List ℕ
word_text label payload = decimal label ++ (codes ":" ++ decimal payload)

-- a text up to its first colon (byte 58) and behind it
unfoldable pub at_colon : List ℕ → Option (List ℕ × List ℕ)
at_colon [] = None
at_colon (b ∷ bs) = elim (b == 58) [ true ↦ Some ([], bs) | false ↦ elim (at_colon bs) [ None ↦ None | Some p ↦ Some (b ∷ p.0, p.1) ] ]

abbrev pub word_by : Option ℕ → Option ℕ → Option ℕ
word_by None p = None
word_by (Some l) None = None
word_by (Some l) (Some p) = Some (word l p)

-- the word that a text spells: a label up to 255 and a payload up to 16,777,215, in digits
unfoldable pub word_of : List ℕ → Option ℕ
unfolding at_colon digits_of
word_of text = elim (at_colon text) [ None ↦ None | Some p ↦ word_by (number_of 255 p.0) (number_of 16777215 p.1) ]
