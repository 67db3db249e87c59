-- The marks of a term change nothing of its step.
use Rattle.std.specs.Prelude.{◌≡◌, ℕ, zero, suc, Bool, true, false, cond, ◌∷◌, refl}
use Rattle.std.proofs.Common.{ap, ◌∙◌}
use Rattle.terms.specs.Trees.{Tree, Trees, atom, variable, body, head, form, none, more, count, nth, bare, bare_all}
use Rattle.languages.specs.Meaning.{ended, bare_move}
use Rattle.steppers.specs.declared.action.Made.{Made}
use Rattle.steppers.specs.declared.action.Made.TheVariants as made
use Rattle.steppers.specs.declared.action.Action.{Action}
use Rattle.steppers.specs.declared.action.Action.TheVariants as action
use Rattle.steppers.specs.Looks.{seen, seen_all}
use Rattle.steppers.specs.Table.{Table, action_at}
use Rattle.steppers.specs.Steps.{pick, fill, Change, replaced, within, waits, sticks, around, in_form, child_before, children_behind, step_of, child_step, move_of, rule_of}

-- a mark is looked through
pub seen-bare : (t : Tree) → seen (bare t) ≡ seen t
unfolding seen bare
seen-bare (atom v) = refl
seen-bare (variable n) = refl
seen-bare (body k t) = seen-bare t
seen-bare (head k r ds t) = seen-bare t
seen-bare (form l ts) = refl

pub seen_all-bare : (ts : Trees) → seen_all (bare_all ts) ≡ seen_all ts
unfolding seen_all bare_all
seen_all-bare none = refl
seen_all-bare (more t ts) = ap (λ s. s ∷ seen_all (bare_all ts)) (seen-bare t) ∙ ap (λ ss. seen t ∷ ss) (seen_all-bare ts)

pub count-bare : (ts : Trees) → count (bare_all ts) ≡ count ts
unfolding count bare_all
count-bare none = refl
count-bare (more t ts) = ap suc (count-bare ts)

-- so the table says the same
action_bare : (table : Table) (l : ℕ) (ts : Trees) (image : ℕ) → action_at table l (bare_all ts) image ≡ action_at table l ts image
action_bare table l ts image =
    ap (λ n. cond (table.has l n) (table.acts l (seen_all (bare_all ts)) image) action.Stuck) (count-bare ts)
    ∙ ap (λ ss. cond (table.has l (count ts)) (table.acts l ss image) action.Stuck) (seen_all-bare ts)

pick-bare : (i : ℕ) (ts : Trees) → pick i (bare_all ts) ≡ bare (pick i ts)
unfolding pick nth bare bare_all
pick-bare zero none = refl
pick-bare (suc i) none = refl
pick-bare zero (more t ts) = refl
pick-bare (suc i) (more t ts) = pick-bare i ts

-- what is made of children without marks is what is made, without marks
fill-bare : (by : Made) (ts : Trees) → fill by (bare_all ts) ≡ bare (fill by ts)
unfolding fill bare bare_all
fill-bare (made.Number v) ts = refl
fill-bare (made.Leaf l) ts = refl
fill-bare (made.Child i) ts = pick-bare i ts
fill-bare (made.Round first again n i) ts =
    ap (λ t. form first (more t (more (form again (more (atom n) (more t none))) none))) (pick-bare i ts)

abbrev mapped : {X : Type 0} → (X → X) → Change X → Change X
mapped f (replaced effect x) = replaced effect (f x)
mapped f (within effect x) = within effect (f x)
mapped f waits = waits
mapped f sticks = sticks

-- a mark around the part makes no difference
around-bare : (mark : Tree → Tree) → ((t : Tree) → bare (mark t) ≡ bare t) → (c : Change Tree) → mapped bare c ≡ mapped bare (around mark c)
around-bare mark h (replaced effect t) = refl
around-bare mark h (within effect t) = ap (within effect) (h2 (h t))
  where
    h2 : {x y : Tree} → x ≡ y → y ≡ x
    h2 e = cc
around-bare mark h waits = refl
around-bare mark h sticks = refl

in_form-bare : (l : ℕ) (c : Change Trees) → in_form l (mapped bare_all c) ≡ mapped bare (in_form l c)
unfolding bare
in_form-bare l (replaced effect ts) = refl
in_form-bare l (within effect ts) = refl
in_form-bare l waits = refl
in_form-bare l sticks = refl

before_bare : (ts : Trees) (c : Change Tree) → child_before (bare_all ts) (mapped bare c) ≡ mapped bare_all (child_before ts c)
unfolding bare_all
before_bare ts (replaced effect t) = refl
before_bare ts (within effect t) = refl
before_bare ts waits = refl
before_bare ts sticks = refl

behind-bare : (t : Tree) (c : Change Trees) → children_behind (bare t) (mapped bare_all c) ≡ mapped bare_all (children_behind t c)
unfolding bare_all
behind-bare t (replaced effect ts) = refl
behind-bare t (within effect ts) = refl
behind-bare t waits = refl
behind-bare t sticks = refl

-- what the form's action gives, by what each child's step gives
abbrev pub given : ℕ → Trees → (ℕ → Change Trees) → Action → Change Tree
given l ts child (action.Child i) = in_form l (child i)
given l ts child (action.Replace effect by) = replaced effect (fill by ts)
given l ts child action.Wait = waits
given l ts child action.Stuck = sticks

given-bare : (l : ℕ) (ts : Trees) (child other : ℕ → Change Trees) → ((i : ℕ) → other i ≡ mapped bare_all (child i)) → (a : Action) → given l (bare_all ts) other a ≡ mapped bare (given l ts child a)
given-bare l ts child other h (action.Child i) = ap (in_form l) (h i) ∙ in_form-bare l (child i)
given-bare l ts child other h (action.Replace effect by) = ap (replaced effect) (fill-bare by ts)
given-bare l ts child other h action.Wait = refl
given-bare l ts child other h action.Stuck = refl

pub form-given : (table : Table) (l : ℕ) (ts : Trees) (image : ℕ) → step_of table (form l ts) image ≡ given l ts (λ i. child_step table ts i image) (action_at table l ts image)
unfolding step_of
form-given table l ts image = same (action_at table l ts image)
  where
    same : (a : Action) → elim a [ action.Child i ↦ in_form l (child_step table ts i image) | action.Replace effect by ↦ replaced effect (fill by ts) | action.Wait ↦ waits | action.Stuck ↦ sticks ] ≡ given l ts (λ i. child_step table ts i image) a
    same (action.Child i) = refl
    same (action.Replace effect by) = refl
    same action.Wait = refl
    same action.Stuck = refl

form-bare : (table : Table) (l : ℕ) (ts : Trees) (image : ℕ) → ((i : ℕ) → child_step table (bare_all ts) i image ≡ mapped bare_all (child_step table ts i image)) → step_of table (form l (bare_all ts)) image ≡ mapped bare (step_of table (form l ts) image)
form-bare table l ts image h =
    form-given table l (bare_all ts) image
    ∙ ap (given l (bare_all ts) (λ i. child_step table (bare_all ts) i image)) (action_bare table l ts image)
    ∙ given-bare l ts (λ i. child_step table ts i image) (λ i. child_step table (bare_all ts) i image) h (action_at table l ts image)
    ∙ back (form-given table l ts image)
  where
    back : {x y : Change Tree} → x ≡ y → mapped bare y ≡ mapped bare x
    back e = cc

-- a step of a part without its marks
mutual
  unfolding step_of child_step bare bare_all

  step-bare : (table : Table) (t : Tree) (image : ℕ) → step_of table (bare t) image ≡ mapped bare (step_of table t image)
  step-bare table (atom v) image = refl
  step-bare table (variable n) image = refl
  step-bare table (body k t) image = step-bare table t image ∙ around-bare (body k) (λ u. refl) (step_of table t image)
  step-bare table (head k r ds t) image = step-bare table t image ∙ around-bare (head k r ds) (λ u. refl) (step_of table t image)
  step-bare table (form l ts) image = form-bare table l ts image (λ i. child_bare table ts i image)

  child_bare : (table : Table) (ts : Trees) (i image : ℕ) → child_step table (bare_all ts) i image ≡ mapped bare_all (child_step table ts i image)
  child_bare table none i image = refl
  child_bare table (more t ts) zero image = ap (child_before (bare_all ts)) (step-bare table t image) ∙ before_bare ts (step_of table t image)
  child_bare table (more t ts) (suc i) image = ap (children_behind (bare t)) (child_bare table ts i image) ∙ behind-bare t (child_step table ts i image)

move_bare : (t : Tree) (c : Change Tree) → move_of (bare t) (mapped bare c) ≡ bare_move (move_of t c)
move_bare t (replaced effect u) = refl
move_bare t (within effect u) = refl
move_bare t waits = refl
move_bare t sticks = refl

-- with the marks off the step rule gives the same outcome and effect, and the next term with its marks off
pub rule-bare : (table : Table) (t : Tree) (image : ℕ) → rule_of table (bare t) image ≡ bare_move (rule_of table t image)
unfolding rule_of
rule-bare table t image =
    ap (λ s. cond (table.over s) ended (move_of (bare t) (step_of table (bare t) image))) (seen-bare t)
    ∙ ap (λ c. cond (table.over (seen t)) ended (move_of (bare t) c)) (step-bare table t image)
    ∙ by_test (table.over (seen t))
  where
    by_test : (b : Bool) → cond b ended (move_of (bare t) (mapped bare (step_of table t image))) ≡ bare_move (cond b ended (move_of t (step_of table t image)))
    by_test true = refl
    by_test false = move_bare t (step_of table t image)
