-- The laws of expansion by one list.
use Rattle.std.specs.Prelude.{◌≡◌, ℕ, ◌+◌, ◌*◌, ◌<◌, ◌≤◌, true, false, List, length, Some, None}
use Rattle.terms.specs.Trees.{Tree, Trees, atom, variable, body, head, form, none, more, count, WellFormed, bare, Unmarked}
use Rattle.lists.specs.Acceptance.{Listed}
use Rattle.lists.specs.Laws.{Proper}
use Rattle.lists.specs.Lines.{owned}
use Rattle.expansion.specs.Rules.{Rule, rules_of, stands, stands_any}
use Rattle.expansion.specs.Matches.{fits, rule_at}
use Rattle.expansion.specs.Expansion.{expanded, plain}
use Rattle.expansion.specs.Unexpansion.{unexpanded}
use Rattle.expansion.specs.Offences.{Offence, place_of, offence, Offends}

-- arguments of a left side: atoms and variables, each variable once
unfoldable pub Arguments : Trees → Type 0
unfolding stands_any
Arguments none = Unit {0}
Arguments (more (atom v) rest) = (v < 16777216) × Arguments rest
Arguments (more (variable n) rest) = (n < 8) × (stands_any n rest ≡ false) × Arguments rest
Arguments (more (body k t) rest) = ⊥
Arguments (more (head k r ds t) rest) = ⊥
Arguments (more (form l ts) rest) = ⊥

-- a tree of atoms, variables and forms below those of layer k, each variable once
unfoldable mutual
  pub Right : ℕ → Tree → Type 0
  Right k (atom v) = v < 16777216
  Right k (variable n) = n < 8
  Right k (body j t) = ⊥
  Right k (head j r ds t) = ⊥
  Right k (form l ts) = (16 ≤ l) × (l < 32 + 32 * k) × (count ts ≤ 8) × RightAll k ts

  pub RightAll : ℕ → Trees → Type 0
  RightAll k none = Unit {0}
  RightAll k (more t ts) = Right k t × RightAll k ts × ((n : ℕ) → stands n t ≡ true → stands_any n ts ≡ false)

-- what an accepted list's rule keeps
pub record SoundRule (k : ℕ) (rule : Rule) : Type 0 where
  pub own : owned k rule.label ≡ true
  pub few : count rule.arguments ≤ 8
  pub arguments : Arguments rule.arguments
  pub root : (l : ℕ) × (ts : Trees) × (rule.right ≡ form l ts)
  pub right : Right k rule.right
  pub from_left : (n : ℕ) → stands n rule.right ≡ true → stands_any n rule.arguments ≡ true

-- what an accepted list keeps: of two rules that match one form with its children, both are one
pub record SoundRules (k : ℕ) (rules : List Rule) : Type 0 where
  pub layer : (1 ≤ k) × (k ≤ 6)
  pub few : length rules ≤ 32
  pub each : (i : ℕ) (rule : Rule) → rule_at i rules ≡ Some rule → SoundRule k rule
  pub apart : (i j : ℕ) (rule other : Rule) (l : ℕ) (ts : Trees) → rule_at i rules ≡ Some rule → rule_at j rules ≡ Some other → fits rule l ts ≡ true → fits other l ts ≡ true → i ≡ j

-- the term t expands to the tree c by the list: nothing in it offends, and its expansion is c
abbrev pub ExpandsTo : ℕ → List Rule → Tree → Tree → Type 0
ExpandsTo k rules t c = WellFormed t × (offence k rules t ≡ None) × (expanded k rules t ≡ c)

-- what expands unexpands to itself
abbrev pub UnexpansionUndoesExpansion : Type 0
UnexpansionUndoesExpansion = (k : ℕ) (rules : List Rule) (t c : Tree) → SoundRules k rules → ExpandsTo k rules t c → unexpanded k rules c ≡ Some t

-- what unexpansion gives expands to what was given
abbrev pub UnexpansionIsExact : Type 0
UnexpansionIsExact = (k : ℕ) (rules : List Rule) (t c : Tree) → SoundRules k rules → WellFormed c → unexpanded k rules c ≡ Some t → ExpandsTo k rules t c

-- no two terms have the same expansion
abbrev pub OneTermAnExpansion : Type 0
OneTermAnExpansion = (k : ℕ) (rules : List Rule) (t u c : Tree) → SoundRules k rules → ExpandsTo k rules t c → ExpandsTo k rules u c → t ≡ u

-- what a well-formed term expands to is well formed
abbrev pub ExpansionsAreWellFormed : Type 0
ExpansionsAreWellFormed = (k : ℕ) (rules : List Rule) (t c : Tree) → SoundRules k rules → ExpandsTo k rules t c → WellFormed c

-- with the marks off, the expansion of a term without marks is its plain expansion
abbrev pub MarksOffIsPlain : Type 0
MarksOffIsPlain = (k : ℕ) (rules : List Rule) (t c : Tree) → SoundRules k rules → Unmarked t → ExpandsTo k rules t c → bare c ≡ plain k rules t

-- the offence that is found is the first: it is one, and none stands before it; none is found exactly when there is none
abbrev pub FirstOffenceIsFound : Type 0
FirstOffenceIsFound = (k : ℕ) (rules : List Rule) (t : Tree) → WellFormed t → elim (offence k rules t) [ None ↦ ((o : Offence) → Offends k rules t o → ⊥) | Some f ↦ Offends k rules t f × ((o : Offence) → Offends k rules t o → place_of f ≤ place_of o) ]

-- the rules of every proper list are sound
abbrev pub ProperListsAreSound : Type 0
ProperListsAreSound = (l : Listed) → Proper l → SoundRules l.layer (rules_of l)
