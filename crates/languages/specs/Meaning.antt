-- The meaning of a language: its expansion and its step rule, and how many words it can hold.
use Rattle.std.specs.Prelude.{◌≡◌, ℕ, List, Ok, Result}
use Rattle.terms.specs.Trees.{Tree, written, bare}
use Rattle.languages.specs.declared.refusal.Refusal.{Refusal}

-- what a run of words expands to: a core term, and how many rules that took
pub record Expanded : Type 0 where
  pub term : Tree
  pub uses : ℕ

-- what the step rule says of a core term and an input image
pub data Move : Type 0 where
  -- the effect and the next term
  moved : ℕ → Tree → Move
  ended : Move
  stuck : Move

-- the same with the marks of the next term taken off
abbrev pub bare_move : Move → Move
bare_move (moved effect next) = moved effect (bare next)
bare_move ended = ended
bare_move stuck = stuck

pub record Meaning : Type 0 where
  -- the layer of the topmost list, 0 for a stepper
  pub height : ℕ
  -- how many words the stepper can hold
  pub capacity : ℕ
  -- of any words: the core term that a load holds, or the refusal
  pub expansion : List ℕ → Result Expanded Refusal
  -- the stepper's own expansion, at the bottom
  pub base : List ℕ → Result Expanded Refusal
  -- of a term without marks: its expansion without marks and dropped terms
  pub plain : Tree → Tree
  -- of a core term and an input image
  pub rule : Tree → ℕ → Move

-- a core term: one that the stepper would load, and holds as it is
abbrev pub Core : Meaning → Tree → Type 0
Core m t = m.base (written t) ≡ Ok (record { term = t; uses = 0 })
