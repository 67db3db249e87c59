-- What is seen of a term: the node inside its marks.
use Rattle.std.specs.Prelude.{◌≡◌, ℕ, zero, suc, List, [], ◌∷◌, ◌++◌, Some, None, Option}
use Rattle.terms.specs.Trees.{Tree, Trees, atom, variable, body, head, form, none, more, written, WellFormed}
use Rattle.steppers.specs.declared.action.Seen.{Seen}
use Rattle.steppers.specs.declared.action.Seen.TheVariants.{Number, Form}

-- the words begin with the term t
abbrev pub BeginsWith : List ℕ → Tree → Type 0
BeginsWith words t = WellFormed t × ((rest : List ℕ) × (words ≡ written t ++ rest))

unfoldable pub seen : Tree → Seen
seen (atom v) = Number v
-- no term has a variable
seen (variable n) = Form 2
seen (body k t) = seen t
seen (head k r ds t) = seen t
seen (form l ts) = Form l

unfoldable pub seen_all : Trees → List Seen
seen_all none = []
seen_all (more t ts) = seen t ∷ seen_all ts

-- what is seen of child i, counted from 0
unfoldable pub seen_at : ℕ → List Seen → Option Seen
seen_at i [] = None
seen_at zero (s ∷ ss) = Some s
seen_at (suc i) (s ∷ ss) = seen_at i ss
