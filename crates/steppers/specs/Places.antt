-- Where in the words of a term its step acts.
use Rattle.std.specs.Prelude.{ℕ, zero, suc, ◌+◌, length}
use Rattle.terms.specs.Trees.{Tree, Trees, atom, variable, body, head, form, none, more, written, written_all}
use Rattle.steppers.specs.declared.action.Action.{Action}
use Rattle.steppers.specs.declared.action.Action.TheVariants as action
use Rattle.steppers.specs.declared.spot.Spot.{Spot}
use Rattle.steppers.specs.Table.{Table, action_at}

-- how many words stand in front of the node inside the marks: the marks, with their dropped terms
unfoldable pub marks_length : Tree → ℕ
marks_length (atom v) = 0
marks_length (variable n) = 0
marks_length (body k t) = 1 + marks_length t
marks_length (head k r ds t) = 1 + length (written_all ds) + marks_length t
marks_length (form l ts) = 0

-- how many words the first i children have
unfoldable pub length_before : ℕ → Trees → ℕ
length_before i none = 0
length_before zero (more t ts) = 0
length_before (suc i) (more t ts) = length (written t) + length_before i ts

-- what is done at a node: a form acts by the table, and nothing else has a step
abbrev pub node_action : Table → Tree → ℕ → Action
node_action table (atom v) image = action.Stuck
node_action table (variable n) image = action.Stuck
node_action table (body k t) image = action.Stuck
node_action table (head k r ds t) image = action.Stuck
node_action table (form l ts) image = action_at table l ts image

-- the place at which a step of this part of a term acts; `outer` is where the marks around the part begin, `here` where its words do
unfoldable mutual
  pub spot_of : Table → Tree → ℕ → ℕ → ℕ → Spot
  spot_of table (atom v) image outer here = record { outer = outer; node = here; action = action.Stuck }
  spot_of table (variable n) image outer here = record { outer = outer; node = here; action = action.Stuck }
  spot_of table (body k t) image outer here = spot_of table t image outer (here + 1)
  spot_of table (head k r ds t) image outer here = spot_of table t image outer (here + (1 + length (written_all ds)))
  spot_of table (form l ts) image outer here =
      elim (action_at table l ts image) [ action.Child i ↦ spot_in table ts i image outer here (here + 1) | action.Replace effect by ↦ record { outer = outer; node = here; action = action.Replace effect by } | action.Wait ↦ record { outer = outer; node = here; action = action.Wait } | action.Stuck ↦ record { outer = outer; node = here; action = action.Stuck } ]

  -- in child i; the children's words begin at `place`. A child that is not there has no step.
  pub spot_in : Table → Trees → ℕ → ℕ → ℕ → ℕ → ℕ → Spot
  spot_in table none i image outer here place = record { outer = outer; node = here; action = action.Stuck }
  spot_in table (more t ts) zero image outer here place = spot_of table t image place place
  spot_in table (more t ts) (suc i) image outer here place = spot_in table ts i image outer here (place + length (written t))
