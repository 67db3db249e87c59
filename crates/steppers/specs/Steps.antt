-- The step rule of a stepper, over marked terms.
use Rattle.std.specs.Prelude.{ℕ, zero, suc, cond, Some, None}
use Rattle.terms.specs.Trees.{Tree, Trees, atom, variable, body, head, form, none, more, nth}
use Rattle.languages.specs.Meaning.{Move, moved, ended, stuck}
use Rattle.steppers.specs.declared.action.Made.{Made}
use Rattle.steppers.specs.declared.action.Made.TheVariants as made
use Rattle.steppers.specs.declared.action.Action.TheVariants as action
use Rattle.steppers.specs.Looks.{seen}
use Rattle.steppers.specs.Table.{Table, action_at}

-- child i of a node
unfoldable pub pick : ℕ → Trees → Tree
unfolding nth
pick i ts = elim (nth i ts) [ Some t ↦ t | None ↦ atom 0 ]

-- what is made in the place of a node with these children
unfoldable pub fill : Made → Trees → Tree
unfolding pick
fill (made.Number v) ts = atom v
fill (made.Leaf l) ts = form l none
fill (made.Child i) ts = pick i ts
fill (made.Round first again count i) ts = form first (more (pick i ts) (more (form again (more (atom count) (more (pick i ts) none))) none))

-- what becomes of a part of a term, a tree or the children of a form
pub data Change (X : Type 0) : Type 0 where
  -- its node was replaced, and the marks directly around that go: the effect, and what stands there now
  replaced : ℕ → X → Change X
  -- a node deeper inside was replaced, and the marks around this part stay
  within : ℕ → X → Change X
  waits : Change X
  sticks : Change X

-- a mark around a part: it goes with a replaced node, and stays else
abbrev pub around : (Tree → Tree) → Change Tree → Change Tree
around mark (replaced effect t) = replaced effect t
around mark (within effect t) = within effect (mark t)
around mark waits = waits
around mark sticks = sticks

-- a form around its children
abbrev pub in_form : ℕ → Change Trees → Change Tree
in_form l (replaced effect ts) = within effect (form l ts)
in_form l (within effect ts) = within effect (form l ts)
in_form l waits = waits
in_form l sticks = sticks

-- a child before its later siblings, and siblings behind an earlier one
abbrev pub child_before : Trees → Change Tree → Change Trees
child_before ts (replaced effect t) = within effect (more t ts)
child_before ts (within effect t) = within effect (more t ts)
child_before ts waits = waits
child_before ts sticks = sticks

abbrev pub children_behind : Tree → Change Trees → Change Trees
children_behind t (replaced effect ts) = within effect (more t ts)
children_behind t (within effect ts) = within effect (more t ts)
children_behind t waits = waits
children_behind t sticks = sticks

-- A step of a part of a term. At a form the table says what is done; a number has no step.
unfoldable mutual
  pub step_of : Table → Tree → ℕ → Change Tree
  step_of table (atom v) image = sticks
  step_of table (variable n) image = sticks
  step_of table (body k t) image = around (body k) (step_of table t image)
  step_of table (head k r ds t) image = around (head k r ds) (step_of table t image)
  step_of table (form l ts) image =
      elim (action_at table l ts image) [ action.Child i ↦ in_form l (child_step table ts i image) | action.Replace effect by ↦ replaced effect (fill by ts) | action.Wait ↦ waits | action.Stuck ↦ sticks ]

  -- a step of child i
  pub child_step : Table → Trees → ℕ → ℕ → Change Trees
  child_step table none i image = sticks
  child_step table (more t ts) zero image = child_before ts (step_of table t image)
  child_step table (more t ts) (suc i) image = children_behind t (child_step table ts i image)

-- a step of the whole term t
abbrev pub move_of : Tree → Change Tree → Move
move_of t (replaced effect next) = moved effect next
move_of t (within effect next) = moved effect next
move_of t waits = moved 0 t
move_of t sticks = stuck

-- a whole term that has ended has no step
unfoldable pub rule_of : Table → Tree → ℕ → Move
unfolding step_of seen
rule_of table t image = cond (table.over (seen t)) ended (move_of t (step_of table t image))
