-- A stepper: its capacity, its forms, when a whole term has ended, and what it does at each form.
use Rattle.std.specs.Prelude.{◌≡◌, ℕ, ◌<◌, ◌≤◌, Bool, true, cond, List, [], ◌∷◌, length}
use Rattle.terms.specs.Words.{is_form_label}
use Rattle.terms.specs.Trees.{Trees, form, count}
use Rattle.steppers.specs.declared.action.Seen.{Seen}
use Rattle.steppers.specs.declared.action.Seen.TheVariants as seen
use Rattle.steppers.specs.declared.action.Made.{Made}
use Rattle.steppers.specs.declared.action.Made.TheVariants as made
use Rattle.steppers.specs.declared.action.Action.{Action}
use Rattle.steppers.specs.declared.action.Action.TheVariants as action
use Rattle.steppers.specs.Looks.{BeginsWith, seen_all}

pub record Table : Type 0 where
  pub capacity : ℕ
  -- whether the stepper has the form with this label and this count of children
  pub has : ℕ → ℕ → Bool
  -- whether a whole term that is seen so has ended
  pub over : Seen → Bool
  -- what a step does at a form that the stepper has: by its label, by what is seen of its children, and by the image
  pub acts : ℕ → List Seen → ℕ → Action

-- what is made has the stepper's own forms, numbers in range, and children that the node has
abbrev pub MadeSoundly : (ℕ → ℕ → Bool) → ℕ → Made → Type 0
MadeSoundly has children (made.Number v) = v < 16777216
MadeSoundly has children (made.Leaf l) = has l 0 ≡ true
MadeSoundly has children (made.Child i) = i < children
MadeSoundly has children (made.Round first again count body) = (has first 2 ≡ true) × (has again 2 ≡ true) × (count < 16777216) × (body < children)

abbrev pub ActsSoundly : (ℕ → ℕ → Bool) → ℕ → Action → Type 0
ActsSoundly has children (action.Child i) = i < children
ActsSoundly has children (action.Replace effect by) = MadeSoundly has children by
ActsSoundly has children action.Wait = Unit {0}
ActsSoundly has children action.Stuck = Unit {0}

-- the numbers that are seen are in range
abbrev pub InRange : Seen → Type 0
InRange (seen.Number v) = v < 16777216
InRange (seen.Form l) = Unit {0}

unfoldable pub AllInRange : List Seen → Type 0
AllInRange [] = Unit {0}
AllInRange (s ∷ ss) = InRange s × AllInRange ss

-- what is asked of a stepper
pub record Sound (table : Table) : Type 0 where
  pub holds_some : 1 ≤ table.capacity
  pub holds_few : table.capacity ≤ 1024
  -- its forms are forms
  pub forms : (l n : ℕ) → table.has l n ≡ true → (is_form_label l ≡ true) × (n ≤ 8)
  -- at a form that it has, it acts soundly
  pub acts_soundly : (l : ℕ) (ss : List Seen) (image : ℕ) → table.has l (length ss) ≡ true → AllInRange ss → ActsSoundly table.has (length ss) (table.acts l ss image)

-- what a step does at a form with these children: a form that the stepper lacks has no step
abbrev pub action_at : Table → ℕ → Trees → ℕ → Action
action_at table l ts image = cond (table.has l (count ts)) (table.acts l (seen_all ts) image) action.Stuck

-- the action at the form that the words begin with, whatever stands behind it
abbrev pub ActsAt : (ℕ → List Seen → ℕ → Action) → ℕ → List ℕ → ℕ → Action → Type 0
ActsAt acts l words image r =
    (ts : Trees) → BeginsWith words (form l ts) → r ≡ acts l (seen_all ts) image
