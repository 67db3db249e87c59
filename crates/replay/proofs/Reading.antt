-- The texts of a load, read word by word.
use Rattle.std.proofs.Common.{◌≡◌, ℕ, List, [], ◌∷◌, ◌++◌, map, Some, sym, ap, ◌∙◌, append_assoc}
use mathlib.Core.List.{map-append}
use Rattle.terms.specs.Spelled.{word_of}
use Rattle.replay.specs.Numbers.{Spell}

-- of all these texts, those before the ones that are left have been read as words
abbrev pub Read : List (List ℕ) → List (List ℕ) → List ℕ → Type 0
Read all left words = (front : List (List ℕ)) × (all ≡ front ++ left) × Spell front words

spell_more : (texts : List (List ℕ)) (words : List ℕ) (t : List ℕ) (w : ℕ) → Spell texts words → Some w ≡ word_of t → Spell (texts ++ t ∷ []) (words ++ w ∷ [])
spell_more texts words t w spell is =
    map-append (λ w. Some w) words (w ∷ []) ∙ ap (λ l. l ++ Some w ∷ []) spell ∙ ap (λ o. map word_of texts ++ o ∷ []) is ∙ sym (map-append word_of texts (t ∷ []))

-- one more text is read
pub read_more : (all left behind : List (List ℕ)) (words after t : List ℕ) (w : ℕ) → Read all left words → left ≡ t ∷ behind → Some w ≡ word_of t → after ≡ words ++ w ∷ [] → Read all behind after
read_more all left behind words after t w (front, e, spell) first is items =
    (front ++ t ∷ [], e ∙ ap (λ l. front ++ l) first ∙ sym (append_assoc front (t ∷ []) behind), ap (map (λ w. Some w)) items ∙ spell_more front words t w spell is)
