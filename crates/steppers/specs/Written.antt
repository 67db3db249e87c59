-- What the functions that read and write words answer.
use Rattle.std.specs.Prelude.{◌≡◌, ℕ, ◌+◌, ◌<◌, Bool, false, cond, List, [], ◌∷◌, ◌++◌, take, drop, Some, None, Ok, Err, Option, Result}
use Rattle.std.specs.Result.{result_map_both}
use Rattle.std.specs.Coded.{Unit-prop, le_prop}
use Rattle.std.proofs.Props.{props}
use Rattle.terms.specs.declared.words.Node.{Node}
use Rattle.terms.specs.declared.words.Node.TheVariants as node
use Rattle.terms.specs.Trees.{Tree, written, WellFormed}
use Rattle.terms.specs.Words.{word}
use Rattle.terms.specs.Fronts.{ending, child_at}
use Rattle.languages.specs.declared.refusal.Refusal.{Refusal}
use Rattle.steppers.specs.declared.action.Made.{Made}
use Rattle.steppers.specs.declared.action.Made.TheVariants as made
use Rattle.steppers.specs.Table.{Table}
use Rattle.steppers.specs.Loads.{lacking, expansion_of}

-- how many dropped terms are passed over behind a node; none at a form that the stepper lacks
abbrev pub passed_by : (ℕ → ℕ → Bool) → Option Node → Option ℕ
passed_by has None = Some 0
passed_by has (Some (node.Atom v)) = Some 0
passed_by has (Some (node.Variable n)) = Some 0
passed_by has (Some (node.Body k)) = Some 0
passed_by has (Some (node.Head k r d)) = Some d
passed_by has (Some (node.Form l n)) = cond (has l n) (Some 0) None

abbrev pub LacksAt : (ℕ → ℕ → Bool) → List ℕ → Option ℕ → Type 0
LacksAt has words r = (t : Tree) → WellFormed t → words ≡ written t → r ≡ lacking has t

abbrev pub Admitted : Table → List ℕ → Result (Unit {0}) Refusal → Type 0
Admitted table words r = r ≡ result_map_both (λ e. tt) (λ e. e) (expansion_of table words)

-- the words of child i of the node that the words begin with; none if it is not there
abbrev pub child_words : List ℕ → ℕ → List ℕ
child_words node i = elim (child_at i node) [ None ↦ [] | Some s ↦ take s.length (drop s.place node) ]

-- one round of a repetition: first(body, again(count, body))
abbrev pub round_words : ℕ → ℕ → ℕ → List ℕ → List ℕ
round_words first again count body = word first 2 ∷ (body ++ (word again 2 ∷ (word 0 count ∷ body)))

-- the words that are made in the place of that node
abbrev pub made_words : List ℕ → Made → List ℕ
made_words node (made.Number v) = word 0 v ∷ []
made_words node (made.Leaf l) = word l 0 ∷ []
made_words node (made.Child i) = child_words node i
made_words node (made.Round first again count i) = round_words first again count (child_words node i)

-- the numbers of what is made are those of words
abbrev pub Wordable : Made → Type 0
Wordable (made.Number v) = v < 16777216
Wordable (made.Leaf l) = l < 256
Wordable (made.Child i) = Unit {0}
Wordable (made.Round first again count i) = (first < 256) × (again < 256) × (count < 16777216)

-- it has one proof at most
pub Wordable-prop : (by : Made) → IsProp (Wordable by)
Wordable-prop (made.Number v) = le_prop
Wordable-prop (made.Leaf l) = le_prop
Wordable-prop (made.Child i) = Unit-prop
Wordable-prop (made.Round first again count i) = Prim.hlevel props

-- where the term at the front of the words ends
abbrev pub size_of : List ℕ → ℕ
size_of words = elim (ending false 1 words) [ Ok end ↦ end | Err b ↦ 0 ]

-- what is made in the place of a node, between the words in front of it and those behind it
abbrev pub spliced : List ℕ → List ℕ → Made → List ℕ → List ℕ
spliced front node by rest = front ++ (made_words node by ++ rest)

-- the term with a node of it replaced, and the marks from `outer` on that stand directly around it
abbrev pub rewritten : List ℕ → ℕ → ℕ → Made → List ℕ
rewritten term outer node by = spliced (take outer term) (drop node term) by (drop (node + size_of (drop node term)) term)
