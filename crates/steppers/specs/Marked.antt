-- A term inside marks, and a step inside a form.
use Rattle.std.specs.Prelude.{ℕ, List, [], ◌∷◌}
use Rattle.terms.specs.Trees.{Tree, Trees, body, head}
use Rattle.languages.specs.Meaning.{Move, moved, ended, stuck}

-- a body mark by its layer; a head mark by its layer, its rule and its dropped terms
pub data Mark : Type 0 where
  body_mark : ℕ → Mark
  head_mark : ℕ → ℕ → Trees → Mark

-- the tree inside these marks, the first outermost
unfoldable pub inside : List Mark → Tree → Tree
inside [] t = t
inside (body_mark k ∷ ms) t = body k (inside ms t)
inside (head_mark k r ds ∷ ms) t = head k r ds (inside ms t)

-- a step of a child, seen from the term around it
abbrev pub step_inside : (Tree → Tree) → Move → Move
step_inside around (moved effect next) = moved effect (around next)
step_inside around ended = stuck
step_inside around stuck = stuck
