-- The step table of the sequence language, row by row: a term is looked at inside its marks, and the marks ms stand directly around the node.
use Rattle.std.specs.Prelude.{◌≡◌, ℕ, ◌+◌, ◌-◌, ◌<◌, ◌≤◌, List, None, ◌≢◌}
use Rattle.terms.specs.Trees.{Tree, atom, form, none, more}
use Rattle.languages.specs.Meaning.{moved, ended, stuck}
use Rattle.steppers.specs.declared.action.Seen.TheVariants.{Number, Form}
use Rattle.steppers.specs.Looks.{seen}
use Rattle.steppers.specs.Steps.{rule_of}
use Rattle.steppers.specs.Logic.{bit}
use Rattle.steppers.specs.Sequence.{sequence_table, channel_of}
use Rattle.steppers.specs.Marked.{Mark, inside, step_inside}

abbrev seq_of : Tree → Tree → Tree
seq_of a b = form 32 (more a (more b none))

abbrev set_of : Tree → Tree
set_of n = form 33 (more n none)

abbrev clear_of : Tree → Tree
clear_of n = form 34 (more n none)

abbrev await_of : Tree → Tree
await_of n = form 35 (more n none)

abbrev repeat_of : Tree → Tree → Tree
repeat_of k b = form 36 (more k (more b none))

abbrev nop_of : Tree
nop_of = form 38 none

abbrev rule : Tree → ℕ → Rattle.languages.specs.Meaning.Move
rule = rule_of sequence_table

pub record SequenceRows : Type 0 where
  -- a whole term NOP has ended, a number is stuck
  pub nop_ends : (ms : List Mark) (image : ℕ) → rule (inside ms nop_of) image ≡ ended
  pub number_is_stuck : (t : Tree) (v image : ℕ) → seen t ≡ Number v → rule t image ≡ stuck
  -- SEQ(NOP, b) gives b with its marks; the marks around the SEQ and the NOP go
  pub seq_of_nop : (ms : List Mark) (a b : Tree) (image : ℕ) → seen a ≡ Form 38 → rule (inside ms (seq_of a b)) image ≡ moved 0 b
  -- any other SEQ(a, b) steps a, and the marks around it stay
  pub seq_steps_its_first : (ms : List Mark) (a b : Tree) (image : ℕ) → (seen a ≢ Form 38) → rule (inside ms (seq_of a b)) image ≡ step_inside (λ x. inside ms (seq_of x b)) (rule a image)
  pub set_switches_on : (ms : List Mark) (a : Tree) (n image : ℕ) → seen a ≡ Number n → n ≤ 31 → rule (inside ms (set_of a)) image ≡ moved (100 + n) nop_of
  pub clear_switches_off : (ms : List Mark) (a : Tree) (n image : ℕ) → seen a ≡ Number n → n ≤ 31 → rule (inside ms (clear_of a)) image ≡ moved (200 + n) nop_of
  pub await_is_met : (ms : List Mark) (a : Tree) (n image : ℕ) → seen a ≡ Number n → n ≤ 31 → bit n image ≡ 1 → rule (inside ms (await_of a)) image ≡ moved 0 nop_of
  -- a wait that is not met has moved, and the whole term stays, marks too
  pub await_waits : (ms : List Mark) (a : Tree) (n image : ℕ) → seen a ≡ Number n → n ≤ 31 → bit n image ≡ 0 → rule (inside ms (await_of a)) image ≡ moved 0 (inside ms (await_of a))
  -- what is no number up to 31 is stuck
  pub set_is_stuck : (ms : List Mark) (a : Tree) (image : ℕ) → channel_of (seen a) ≡ None → rule (inside ms (set_of a)) image ≡ stuck
  pub clear_is_stuck : (ms : List Mark) (a : Tree) (image : ℕ) → channel_of (seen a) ≡ None → rule (inside ms (clear_of a)) image ≡ stuck
  pub await_is_stuck : (ms : List Mark) (a : Tree) (image : ℕ) → channel_of (seen a) ≡ None → rule (inside ms (await_of a)) image ≡ stuck
  pub repeat_no_more : (ms : List Mark) (k b : Tree) (image : ℕ) → seen k ≡ Number 0 → rule (inside ms (repeat_of k b)) image ≡ moved 0 nop_of
  -- the body is copied with its marks, the new count has none
  pub repeat_once_more : (ms : List Mark) (k b : Tree) (n image : ℕ) → seen k ≡ Number n → 0 < n → rule (inside ms (repeat_of k b)) image ≡ moved 0 (seq_of b (repeat_of (atom (n - 1)) b))
  pub repeat_is_stuck : (ms : List Mark) (k b : Tree) (l image : ℕ) → seen k ≡ Form l → rule (inside ms (repeat_of k b)) image ≡ stuck
