-- The laws that the meaning of every language keeps.
use Rattle.std.specs.Prelude.{◌≡◌, ℕ, ◌≤◌, List, length, Some, None, Ok, Option}
use Rattle.terms.specs.Trees.{Tree, written, WellFormed, bare, Unmarked}
use Rattle.languages.specs.Meaning.{Expanded, moved, bare_move, Meaning, Core}
use Rattle.languages.specs.Calls.{Expands}

pub record Laws (m : Meaning) : Type 0 where
  -- no two terms have the same expansion
  pub one_term : (t u v : Tree) → WellFormed u → WellFormed v → Expands m u t → Expands m v t → u ≡ v
  -- what a load holds is a core term
  pub loads_core : (words : List ℕ) (e : Expanded) → m.expansion words ≡ Ok e → Core m e.term
  -- a core term is well formed and within the capacity
  pub core_fits : (t : Tree) → Core m t → WellFormed t × (length (written t) ≤ m.capacity)
  -- a next term within the capacity is a core term: the stepper would load it
  pub next_loads : (t next : Tree) (image effect : ℕ) → Core m t → m.rule t image ≡ moved effect next → length (written next) ≤ m.capacity → Core m next
  -- with the marks off a step has the same outcome and effect, and the next term with its marks off
  pub marks_change_nothing : (t : Tree) (image : ℕ) → Core m t → m.rule (bare t) image ≡ bare_move (m.rule t image)
  -- what the load of a term without marks holds is, with the marks off, the term's plain expansion
  pub plain_is_held : (u t : Tree) → WellFormed u → Unmarked u → Expands m u t → bare t ≡ m.plain u

-- what is held is nothing, or a core term
abbrev pub HoldsCore : Meaning → Option Tree → Type 0
HoldsCore m None = Unit {0}
HoldsCore m (Some t) = Core m t
