-- The step table of the logic language, row by row: terms a, b and c are looked at inside their marks, and the marks ms stand directly around the node.
use Rattle.std.specs.Prelude.{◌≡◌, ℕ, ◌+◌, ◌%◌, ◌<◌, ◌≤◌, List}
use Rattle.terms.specs.Trees.{Tree, atom, form, none, more}
use Rattle.languages.specs.Meaning.{moved, ended, stuck}
use Rattle.steppers.specs.declared.action.Seen.TheVariants.{Number, Form}
use Rattle.steppers.specs.Looks.{seen}
use Rattle.steppers.specs.Steps.{rule_of}
use Rattle.steppers.specs.Logic.{bit, logic_table}
use Rattle.steppers.specs.Marked.{Mark, inside, step_inside}

abbrev in_of : Tree → Tree
in_of a = form 16 (more a none)

abbrev not_of : Tree → Tree
not_of a = form 17 (more a none)

abbrev if_of : Tree → Tree → Tree → Tree
if_of a b c = form 20 (more a (more b (more c none)))

abbrev add_of : Tree → Tree → Tree
add_of a b = form 21 (more a (more b none))

abbrev rule : Tree → ℕ → Rattle.languages.specs.Meaning.Move
rule = rule_of logic_table

pub record LogicRows : Type 0 where
  -- a whole term that is a number has ended
  pub number_ends : (t : Tree) (v image : ℕ) → seen t ≡ Number v → rule t image ≡ ended
  -- a node is replaced together with the marks directly around it; what replaces it brings its own
  pub in_gives_a_bit : (ms : List Mark) (a : Tree) (n image : ℕ) → seen a ≡ Number n → n ≤ 31 → rule (inside ms (in_of a)) image ≡ moved 0 (atom (bit n image))
  pub in_is_stuck_above_31 : (ms : List Mark) (a : Tree) (n image : ℕ) → seen a ≡ Number n → 31 < n → rule (inside ms (in_of a)) image ≡ stuck
  pub not_of_0 : (ms : List Mark) (a : Tree) (image : ℕ) → seen a ≡ Number 0 → rule (inside ms (not_of a)) image ≡ moved 0 (atom 1)
  pub not_of_others : (ms : List Mark) (a : Tree) (n image : ℕ) → seen a ≡ Number n → 0 < n → rule (inside ms (not_of a)) image ≡ moved 0 (atom 0)
  pub if_of_0 : (ms : List Mark) (a b c : Tree) (image : ℕ) → seen a ≡ Number 0 → rule (inside ms (if_of a b c)) image ≡ moved 0 c
  pub if_of_others : (ms : List Mark) (a b c : Tree) (n image : ℕ) → seen a ≡ Number n → 0 < n → rule (inside ms (if_of a b c)) image ≡ moved 0 b
  pub add_gives_the_sum : (ms : List Mark) (a b : Tree) (m n image : ℕ) → seen a ≡ Number m → seen b ≡ Number n → rule (inside ms (add_of a b)) image ≡ moved 0 (atom ((m + n) % 16777216))
  -- the leftmost needed child that is no number is stepped instead, and the marks around the node stay
  pub in_steps_its_child : (ms : List Mark) (a : Tree) (l image : ℕ) → seen a ≡ Form l → rule (inside ms (in_of a)) image ≡ step_inside (λ x. inside ms (in_of x)) (rule a image)
  pub not_steps_its_child : (ms : List Mark) (a : Tree) (l image : ℕ) → seen a ≡ Form l → rule (inside ms (not_of a)) image ≡ step_inside (λ x. inside ms (not_of x)) (rule a image)
  pub if_steps_its_test : (ms : List Mark) (a b c : Tree) (l image : ℕ) → seen a ≡ Form l → rule (inside ms (if_of a b c)) image ≡ step_inside (λ x. inside ms (if_of x b c)) (rule a image)
  pub add_steps_its_left : (ms : List Mark) (a b : Tree) (l image : ℕ) → seen a ≡ Form l → rule (inside ms (add_of a b)) image ≡ step_inside (λ x. inside ms (add_of x b)) (rule a image)
  pub add_steps_its_right : (ms : List Mark) (a b : Tree) (m l image : ℕ) → seen a ≡ Number m → seen b ≡ Form l → rule (inside ms (add_of a b)) image ≡ step_inside (λ x. inside ms (add_of a x)) (rule b image)
