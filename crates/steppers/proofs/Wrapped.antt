-- The rule of a term inside marks, by the step of the node inside them.
use Rattle.std.proofs.Common.{◌≡◌, ℕ, true, false, List, [], ◌∷◌, sym, refl, ap, ◌∙◌}
use Rattle.terms.specs.Trees.{Tree, Trees, atom, variable, body, head, form, more}
use Rattle.languages.specs.Meaning.{ended, stuck}
use Rattle.languages.proofs.Asked.{apart}
use Rattle.steppers.specs.declared.action.Seen.TheVariants.{Number, Form}
use Rattle.steppers.specs.declared.action.Action.{Action}
use Rattle.steppers.specs.declared.action.Action.TheVariants.{Child}
use Rattle.steppers.specs.Looks.{seen}
use Rattle.steppers.specs.Table.{Table, action_at}
use Rattle.steppers.specs.Steps.{Change, replaced, within, waits, sticks, around, in_form, child_before, children_behind, step_of, child_step, move_of, rule_of}
use Rattle.steppers.specs.Marked.{Mark, body_mark, head_mark, inside, step_inside}
use Rattle.steppers.specs.Marking.{given, form-given}
use Rattle.steppers.proofs.Stepping.{goes_on_lem, rule_ended}

-- marks are looked through
seen-inside : (ms : List Mark) (t : Tree) → seen (inside ms t) ≡ seen t
unfolding seen inside
seen-inside [] t = refl
seen-inside (body_mark k ∷ ms) t = seen-inside ms t
seen-inside (head_mark k r ds ∷ ms) t = seen-inside ms t

-- without marks nothing changes
around_none : (c : Change Tree) → c ≡ around (λ t. t) c
around_none (replaced effect t) = refl
around_none (within effect t) = refl
around_none waits = refl
around_none sticks = refl

-- a mark around a mark
around_both : (outer inner : Tree → Tree) (c : Change Tree) → around outer (around inner c) ≡ around (λ t. outer (inner t)) c
around_both outer inner (replaced effect t) = refl
around_both outer inner (within effect t) = refl
around_both outer inner waits = refl
around_both outer inner sticks = refl

-- what a child's change makes of all children, where put puts the child among the others
abbrev placed : (Tree → Trees) → Change Tree → Change Trees
placed put (replaced effect t) = within effect (put t)
placed put (within effect t) = within effect (put t)
placed put waits = waits
placed put sticks = sticks

-- a child before its later siblings is put there
before_placed : (ts : Trees) (c : Change Tree) → child_before ts c ≡ placed (λ t. more t ts) c
before_placed ts (replaced effect t) = refl
before_placed ts (within effect t) = refl
before_placed ts waits = refl
before_placed ts sticks = refl

-- and so is one behind an earlier sibling
behind_placed : (a : Tree) (put : Tree → Trees) (c : Change Tree) → children_behind a (placed put c) ≡ placed (λ t. more a (put t)) c
behind_placed a put (replaced effect t) = refl
behind_placed a put (within effect t) = refl
behind_placed a put waits = refl
behind_placed a put sticks = refl

-- the move that a child's change makes is the child's move, seen from the term around it
placed_move : (ms : List Mark) (l : ℕ) (put : Tree → Trees) (a : Tree) (c : Change Tree) → move_of (inside ms (form l (put a))) (around (inside ms) (in_form l (placed put c))) ≡ step_inside (λ t. inside ms (form l (put t))) (move_of a c)
placed_move ms l put a (replaced effect t) = refl
placed_move ms l put a (within effect t) = refl
placed_move ms l put a waits = refl
placed_move ms l put a sticks = refl

module _ (table : Table) (image : ℕ) where
  -- the marks go with a replaced node, and stay else
  step_inside_lem : (ms : List Mark) (t : Tree) → step_of table (inside ms t) image ≡ around (inside ms) (step_of table t image)
  unfolding step_of inside
  step_inside_lem [] t = around_none (step_of table t image)
  step_inside_lem (body_mark k ∷ ms) t =
      ap (around (body k)) (step_inside_lem ms t) ∙ around_both (body k) (inside ms) (step_of table t image)
  step_inside_lem (head_mark k r ds ∷ ms) t =
      ap (around (head k r ds)) (step_inside_lem ms t) ∙ around_both (head k r ds) (inside ms) (step_of table t image)

  -- a number has no step
  number_sticks : (t : Tree) (v : ℕ) → seen t ≡ Number v → step_of table t image ≡ sticks
  unfolding step_of seen
  number_sticks (atom n) v e = refl
  number_sticks (variable n) v e = refl
  number_sticks (body k t) v e = ap (around (body k)) (number_sticks t v e)
  number_sticks (head k r ds t) v e = ap (around (head k r ds)) (number_sticks t v e)
  number_sticks (form l ts) v e = apart (cc)

  -- so a whole term that is a number, and has not ended, is stuck
  pub rule_number : (t : Tree) (v : ℕ) → table.over (Number v) ≡ false → seen t ≡ Number v → rule_of table t image ≡ stuck
  rule_number t v over e =
      goes_on_lem table t image sticks (ap table.over e ∙ over) (number_sticks t v e)

  module _ (ms : List Mark) (l : ℕ) where
    -- a whole term that has ended, by its form
    pub form_ends : (ts : Trees) → table.over (Form l) ≡ true → rule_of table (inside ms (form l ts)) image ≡ ended
    unfolding seen
    form_ends ts over =
        rule_ended table (inside ms (form l ts)) image (ap table.over (seen-inside ms (form l ts)) ∙ over)

    module _ (over : table.over (Form l) ≡ false) where
      -- a form inside marks, by what is done there
      pub form_acts : {a : Action} (ts : Trees) → action_at table l ts image ≡ a → rule_of table (inside ms (form l ts)) image ≡ move_of (inside ms (form l ts)) (around (inside ms) (given l ts (λ i. child_step table ts i image) a))
      unfolding seen
      form_acts ts e =
          goes_on_lem table (inside ms (form l ts)) image _ (ap table.over (seen-inside ms (form l ts)) ∙ over)
          (step_inside_lem ms (form l ts) ∙ ap (around (inside ms)) (form-given table l ts image ∙ ap (given l ts (λ i. child_step table ts i image)) e))

      -- a form that steps its child i has the child's move, seen from the form
      child_steps : (put : Tree → Trees) (a : Tree) (i : ℕ) → child_step table (put a) i image ≡ placed put (step_of table a image) → table.over (seen a) ≡ false → action_at table l (put a) image ≡ Child i → rule_of table (inside ms (form l (put a))) image ≡ step_inside (λ t. inside ms (form l (put t))) (rule_of table a image)
      child_steps put a i child goes e =
          form_acts (put a) e
          ∙ ap (λ c. move_of (inside ms (form l (put a))) (around (inside ms) (in_form l c))) child
          ∙ placed_move ms l put a (step_of table a image)
          ∙ ap (step_inside (λ t. inside ms (form l (put t)))) (sym (goes_on_lem table a image (step_of table a image) goes refl))

      -- its first child
      pub first_steps : (a : Tree) (ts : Trees) → table.over (seen a) ≡ false → action_at table l (more a ts) image ≡ Child 0 → rule_of table (inside ms (form l (more a ts))) image ≡ step_inside (λ t. inside ms (form l (more t ts))) (rule_of table a image)
      unfolding child_step
      first_steps a ts goes e = child_steps (λ t. more t ts) a 0 (before_placed ts (step_of table a image)) goes e

      -- its second child
      pub second_steps : (a b : Tree) (ts : Trees) → table.over (seen b) ≡ false → action_at table l (more a (more b ts)) image ≡ Child 1 → rule_of table (inside ms (form l (more a (more b ts)))) image ≡ step_inside (λ t. inside ms (form l (more a (more t ts)))) (rule_of table b image)
      unfolding child_step
      second_steps a b ts goes e =
          child_steps (λ t. more a (more t ts)) b 1
          (ap (children_behind a) (before_placed ts (step_of table b image)) ∙ behind_placed a (λ t. more t ts) (step_of table b image))
          goes e
