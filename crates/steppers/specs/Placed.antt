-- What the functions that look into words answer, if the words begin with a term.
use Rattle.std.specs.Prelude.{◌≡◌, ℕ, ◌+◌, ◌<◌, ◌≤◌, Bool, cond, List, length, Some, None, Option}
use Rattle.terms.specs.declared.words.Node.{Node}
use Rattle.terms.specs.declared.words.Node.TheVariants as node
use Rattle.terms.specs.Trees.{Tree, Trees, form, count, nth, written, WellFormed}
use Rattle.steppers.specs.declared.action.Seen.{Seen}
use Rattle.steppers.specs.declared.action.Seen.TheVariants as seen_as
use Rattle.steppers.specs.declared.action.Action.{Action}
use Rattle.steppers.specs.declared.spot.Spot.{Spot}
use Rattle.steppers.specs.Looks.{BeginsWith, seen, seen_all, seen_at}
use Rattle.steppers.specs.Table.{Table}
use Rattle.steppers.specs.Places.{marks_length, length_before, node_action, spot_of}

-- how many dropped terms stand behind a mark; none behind any other node
abbrev pub dropped_by : Option Node → Option ℕ
dropped_by None = None
dropped_by (Some (node.Atom v)) = None
dropped_by (Some (node.Variable n)) = None
dropped_by (Some (node.Body k)) = Some 0
dropped_by (Some (node.Head k r d)) = Some d
dropped_by (Some (node.Form l n)) = None

-- what is seen of a node
abbrev pub seen_by : Option Node → Option Seen
seen_by None = None
seen_by (Some (node.Atom v)) = Some (seen_as.Number v)
seen_by (Some (node.Variable n)) = None
seen_by (Some (node.Body k)) = None
seen_by (Some (node.Head k r d)) = None
seen_by (Some (node.Form l n)) = Some (seen_as.Form l)

-- how many children a form has
abbrev pub form_count : Option Node → Option ℕ
form_count None = None
form_count (Some (node.Atom v)) = None
form_count (Some (node.Variable n)) = None
form_count (Some (node.Body k)) = None
form_count (Some (node.Head k r d)) = None
form_count (Some (node.Form l n)) = Some n

-- the label of a form that the stepper has
abbrev pub own_label : (ℕ → ℕ → Bool) → Option Node → Option ℕ
own_label has None = None
own_label has (Some (node.Atom v)) = None
own_label has (Some (node.Variable n)) = None
own_label has (Some (node.Body k)) = None
own_label has (Some (node.Head k r d)) = None
own_label has (Some (node.Form l n)) = cond (has l n) (Some l) None

abbrev pub InsideOf : List ℕ → ℕ → Type 0
InsideOf words r = (r ≤ length words) × ((t : Tree) → BeginsWith words t → r ≡ marks_length t)

abbrev pub SeenOf : List ℕ → Option Seen → Type 0
SeenOf words r = (t : Tree) → BeginsWith words t → r ≡ Some (seen t)

-- whether the whole term that the words are has ended
abbrev pub OverAt : Table → List ℕ → Bool → Type 0
OverAt table words r = (t : Tree) → BeginsWith words t → r ≡ table.over (seen t)

-- child i begins behind the children before it
abbrev pub StartOf : List ℕ → ℕ → Option ℕ → Type 0
StartOf words i None = (l : ℕ) (ts : Trees) → BeginsWith words (form l ts) → nth i ts ≡ None
StartOf words i (Some start) =
    (0 < start) × (start ≤ length words) × ((l : ℕ) (ts : Trees) → BeginsWith words (form l ts) → (i < count ts) × (start ≡ 1 + length_before i ts))

abbrev pub SeenChild : List ℕ → ℕ → Option Seen → Type 0
SeenChild words i r = (l : ℕ) (ts : Trees) → BeginsWith words (form l ts) → r ≡ seen_at i (seen_all ts)

abbrev pub ActionOf : Table → List ℕ → ℕ → Action → Type 0
ActionOf table words image r = (t : Tree) → BeginsWith words t → r ≡ node_action table t image

abbrev pub FoundIn : Table → List ℕ → ℕ → Spot → Type 0
FoundIn table words image r =
    (r.outer ≤ r.node) × (r.node ≤ length words) × ((t : Tree) → WellFormed t → words ≡ written t → r ≡ spot_of table t image 0 0)
