-- Words that texts spell as label:payload.
use Rattle.std.specs.Prelude.{◌≡◌, ℕ, List, ◌∷◌, ◌++◌, map, Some, None}
use Rattle.terms.specs.Spelled.{word_of}

-- these texts spell these words, one each
abbrev pub Spell : List (List ℕ) → List ℕ → Type 0
Spell texts words = map (λ w. Some w) words ≡ map word_of texts

-- the first of these texts that spells no word
abbrev pub NoWordFirst : List (List ℕ) → List ℕ → Type 0
NoWordFirst texts t =
    (front rest : List (List ℕ)) × (words : List ℕ) × (texts ≡ front ++ (t ∷ rest)) × Spell front words × (word_of t ≡ None)
