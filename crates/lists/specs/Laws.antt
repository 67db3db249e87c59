-- What acceptance means, in the words of the subject.
use Rattle.std.specs.Prelude.{◌≡◌, ℕ, ◌+◌, ◌*◌, ◌<◌, ◌≤◌, true, false, ◌⊎◌, List, [], ◌∷◌, length, Ok, Err, Result, ◌≢◌, slice_index, slice_index_or}
use Rattle.std.specs.List.{ContainsAt, AllByRecursion}
use Rattle.terms.specs.Words.{node_of}
use Rattle.terms.specs.Trees.{Trees, form, written, WellMade}
use Rattle.lists.specs.declared.parts.Form.{Form}
use Rattle.lists.specs.declared.refusal.Refusal.{Refusal}
use Rattle.lists.specs.declared.refusal.Refusal.TheVariants.{NoMemory}
use Rattle.lists.specs.Lines.{Sides}
use Rattle.lists.specs.Sides.{is_variable, is_argument, on_right, form_word, clash}
use Rattle.lists.specs.Acceptance.{Listed, accepted}
use Rattle.texts.specs.Spelling.{TextSpelled}
use Rattle.lists.specs.Spelling.{header_says, table_says}

-- the two texts spell the list: both declare its layer and its number of rules, and each form and each rule has its own line
pub record Spelled (l : Listed) (header table : List ℕ) : Type 0 where
  pub header_short : length header ≤ 16384
  pub table_short : length table ≤ 16384
  pub header_spelled : TextSpelled (header_says l) header
  pub table_spelled : TextSpelled (table_says l) table

-- labels that layer k owns, each higher than the one before, with 0 to 8 children each
abbrev pub Rising : ℕ → ℕ → List Form → Type 0
Rising k before [] = Unit {0}
Rising k before (f ∷ fs) = (32 + 32 * k ≤ f.label) × (f.label ≤ 63 + 32 * k) × (before < f.label) × (f.count ≤ 8) × Rising k f.label fs

-- a declared form, and as many variables and atoms as it has children
abbrev pub LeftSide : List Form → List ℕ → Type 0
LeftSide forms left = (f : Form) × (args : List ℕ) × ContainsAt forms f × (left ≡ form_word f ∷ args) × (length args ≡ f.count) × AllByRecursion (λ w. is_argument w ≡ true) args

-- one tree whose root is a form, of atoms, variables and forms of labels below those of layer k
abbrev pub RightSide : ℕ → List ℕ → Type 0
RightSide k right = (label : ℕ) × (ts : Trees) × WellMade (form label ts) true × (written (form label ts) ≡ right) × AllByRecursion (λ w. on_right k w ≡ true) right

-- no variable stands at two places
abbrev pub OncePlaced : List ℕ → Type 0
OncePlaced ws = (i j : ℕ) → i < j → j < length ws → is_variable (node_of (slice_index ws i)) ≡ true → slice_index ws i ≢ slice_index ws j

-- a variable of the right side stands on the left
abbrev pub FromLeft : List ℕ → List ℕ → Type 0
FromLeft left right = (w : ℕ) → ContainsAt right w → is_variable (node_of w) ≡ true → ContainsAt left w

-- two left sides overlap: the same form, and no argument place with two different atoms
abbrev pub Overlaps : List ℕ → List ℕ → Type 0
Overlaps left other = (w : ℕ) × (vs : List ℕ) × (ws : List ℕ) × (left ≡ w ∷ vs) × (other ≡ w ∷ ws) × ((i : ℕ) → i < length vs → i < length ws → clash (slice_index vs i) (slice_index ws i) ≡ false)

-- some rule is for the form
abbrev pub HasRule : List Sides → Form → Type 0
HasRule rules f = (s : Sides) × (args : List ℕ) × ContainsAt rules s × (s.left ≡ form_word f ∷ args)

-- all that is asked of a list
pub record Proper (l : Listed) : Type 0 where
  pub layer : (1 ≤ l.layer) × (l.layer ≤ 6)
  pub form_count : (1 ≤ length l.forms) × (length l.forms ≤ 32)
  pub rule_count : (1 ≤ length l.rules) × (length l.rules ≤ 32)
  pub forms : Rising l.layer 0 l.forms
  pub sizes : AllByRecursion (λ s. (length s.left ≤ 9) × (length s.right ≤ 64)) l.rules
  pub lefts : AllByRecursion (λ s. LeftSide l.forms s.left) l.rules
  pub rights : AllByRecursion (λ s. RightSide l.layer s.right) l.rules
  pub once : AllByRecursion (λ s. OncePlaced s.left × OncePlaced s.right) l.rules
  pub from_left : AllByRecursion (λ s. FromLeft s.left s.right) l.rules
  pub apart : (i j : ℕ) (d : Sides) → i < j → j < length l.rules → Overlaps (slice_index_or l.rules i d).left (slice_index_or l.rules j d).left → ⊥
  pub ruled : AllByRecursion (HasRule l.rules) l.forms

-- from both sides: what is accepted is a proper list that the texts spell, and two texts that spell a proper list are accepted as that list
abbrev pub AcceptedAreProper : Type 0
AcceptedAreProper = (header table : List ℕ) (l : Listed) → accepted header table ≡ Ok l → Spelled l header table × Proper l

abbrev pub ProperAreAccepted : Type 0
ProperAreAccepted = (header table : List ℕ) (l : Listed) → Spelled l header table → Proper l → accepted header table ≡ Ok l

-- an answer: the list that is then held is proper and spelled by the texts; or there was no memory; or the texts spell no proper list
abbrev pub Means : List ℕ → List ℕ → Result Listed Refusal → Type 0
Means header table (Ok l) = Spelled l header table × Proper l
Means header table (Err e) = (e ≡ NoMemory) ⊎ ((l : Listed) → Spelled l header table → Proper l → ⊥)
