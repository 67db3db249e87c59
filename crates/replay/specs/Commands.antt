-- What a line of a job asks for, by its words.
use Rattle.std.specs.Prelude.{◌≡◌, ℕ, ◌⊎◌, List, [], ◌∷◌, length, Ok, Err, codes, Option, Result, MatchOption, ◌≢◌, slice_index}
use Rattle.std.specs.Borrow.{Bor}
use Rattle.texts.specs.Texts.{pieces}
use Rattle.replay.specs.declared.command.Command.{Command}
use Rattle.replay.specs.declared.command.Command.TheVariants.{Nothing, Held}
use Rattle.replay.specs.declared.command.Command.TheVariants as command
use Rattle.replay.specs.declared.command.Misread.{Misread}
use Rattle.replay.specs.declared.command.Misread.TheVariants.{Unknown, WrongWords}

-- the pieces that are not empty
unfoldable pub filled_of : List (List ℕ) → List (List ℕ)
filled_of [] = []
filled_of ([] ∷ ps) = filled_of ps
filled_of ((b ∷ bs) ∷ ps) = (b ∷ bs) ∷ filled_of ps

-- the words of a line: its pieces between spaces that are not empty
unfoldable pub words_of : List ℕ → List (List ℕ)
unfolding pieces filled_of
words_of line = filled_of (pieces 32 line)

-- the first of these words, and a line with the others
abbrev pub FirstOf : List (List ℕ) → Option (Bor (List ℕ) × Bor (List ℕ)) → Type 0
FirstOf words r = MatchOption r (words ≡ []) (λ x. words ≡ x.0.now ∷ words_of x.1.now)

abbrev pub OneOf : List (List ℕ) → Option (Bor (List ℕ)) → Type 0
OneOf words r = MatchOption r (length words ≢ 1) (λ x. words ≡ x.now ∷ [])

abbrev pub TwoOf : List (List ℕ) → Option (Bor (List ℕ) × Bor (List ℕ)) → Type 0
TwoOf words r = MatchOption r (length words ≢ 2) (λ x. words ≡ x.0.now ∷ x.1.now ∷ [])

-- what a line with these words asks for: every line falls under one case
abbrev pub Asks : List (List ℕ) → Result Command Misread → Type 0
Asks words (Ok Nothing) = (words ≡ []) ⊎ ((w : List ℕ) × (ws : List (List ℕ)) × (words ≡ w ∷ ws) × (slice_index w 0 ≡ 35))
Asks words (Ok (command.List header table)) = words ≡ codes "list" ∷ header.now ∷ table.now ∷ []
Asks words (Ok Held) = words ≡ codes "held" ∷ []
Asks words (Err (Unknown w)) =
    (ws : List (List ℕ)) × (words ≡ w.now ∷ ws) × (w.now ≢ codes "list") × (w.now ≢ codes "held") × (slice_index w.now 0 ≢ 35)
Asks words (Err (WrongWords usage)) =
    (ws : List (List ℕ)) × (((words ≡ codes "list" ∷ ws) × (length ws ≢ 2) × (usage.now ≡ codes "list HEADER-FILE TABLE-FILE")) ⊎ ((words ≡ codes "held" ∷ ws) × (length ws ≢ 0) × (usage.now ≡ codes "held")))
